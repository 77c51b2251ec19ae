use Rattle.std.proofs.Common.{[]}
use Rattle.latex2mathml_parts.specs.Forests.{trees_in}
use Rattle.latex2mathml_tokens.specs.Lexemes.{lexeme_tok}
use Rattle.latex2mathml_parser.proofs.Appending.{leaf_read, node_begun}
use Rattle.latex2mathml_parser.proofs.formula.append_node.Goals as goal

pub returns-in-Some-clause-node : goal.returns-in-Some-clause-node
returns-in-Some-clause-node c = λ input e.
    let leaf = c.in-Some.ensures.leaf in
    (c.requires, (_, leaf_read input c.args.parser.now.lexer.list c.lone_leaf.new.lexer.list (lexeme_tok c.args.lexeme.now) _ e c.lone_leaf.ensures.list (leaf.0.1 []) leaf.1, c.in_ok-write_leaf.ensures))

pub returns-clause-node : goal.returns-clause-node
returns-clause-node c = λ input e.
    c.append_rest.ensures.node input
    (c.in_ok-state.ensures.holds input
    (rw c.lone_leaf.ensures.list (node_begun input _ _ (trees_in c.make_room.new.self) (lexeme_tok c.args.lexeme.now) c.requires e)))
