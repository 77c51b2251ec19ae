use Rattle.latex2mathml_parser.proofs.Names.{letter_taken, name_taken}
use Rattle.latex2mathml_parser.proofs.lexer.Lexer.name.Goals as goal

pub loop-c-preserved : goal.loop-c-preserved
loop-c-preserved c = letter_taken _ _ c.in-Letter.c _ _ _ _ c.in-Letter.ensures c.in_ok-push.ensures.bytes c.loop-c.invariant

pub returns : goal.returns
returns c =
    let all = name_taken _ _ c.args.self.now _ _ c.take.ensures c.in_default.not-Letter c.loop-c.invariant in
    record { name = all.0; counts = all.1 }
