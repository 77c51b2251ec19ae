use Rattle.std.proofs.{Common.rules, KnownBytes.Consumes-trans}
use Rattle.latex2mathml.proofs.input.read_whole.Goals as goal

pub returns-then-is_err-clause-fault : goal.returns-then-is_err-clause-fault
returns-then-is_err-clause-fault g c =
    (_, Consumes-trans _ _ _ _ _ c.loop-bytes.invariant.0 c.in-Some.ensures.bytes, search rules)
