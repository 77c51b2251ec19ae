use Rattle.std.proofs.Common.{◌++◌, refl}
use Rattle.std.specs.Char.{encode_utf8}
use Rattle.latex2mathml_parser.proofs.Names.{letter_taken, name_taken}
use Rattle.latex2mathml_parser.proofs.lexer.Lexer.skip_name.Goals as goal

pub loop-preserved : goal.loop-preserved
loop-preserved c =
    let letter = c.in-Letter.field-0 in
    let so_far = c.loop.invariant in
    (so_far.0 ++ encode_utf8 letter, letter_taken _ _ letter _ _ _ _ c.in-Letter.ensures refl so_far.1)

pub returns : goal.returns
returns c =
    let so_far = c.loop.invariant in
    let all = name_taken _ _ c.args.self.now _ _ c.take.ensures c.in_default.not-Letter so_far.1 in
    record { name = (so_far.0, all.0); counts = all.1 }
