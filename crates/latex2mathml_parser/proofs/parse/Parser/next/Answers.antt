use Rattle.latex2mathml_parts.specs.Forests.{trees_in}
use Rattle.latex2mathml_parser.proofs.{Beginning.letter_begins, Beginning.letter_stood, Stacks.token_begun}
use Rattle.latex2mathml_parser.proofs.parse.Parser.next.Goals as goal

pub returns-in-Some-clause-holds : goal.returns-in-Some-clause-holds
returns-in-Some-clause-holds c = λ input k.
    let p = c.args.self.now in
    let found = letter_stood c.in-Some.c p.lexer.list _ c.in-Some.ensures.token c.in-Some.ensures.list in
    c.put_leaf.ensures.holds input (token_begun input p.frames.stack.items (trees_in p.parts) p.lexer.list _ _ (letter_begins c.in-Some.c p.frames.stack.items found) found k)
