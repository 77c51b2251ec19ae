-- No unit that the loop passed is a dollar sign.
use Rattle.std.proofs.Common.{length, ◌-◌}
use Rattle.latex2mathml.proofs.PlainTexts.{Passed}
use Rattle.latex2mathml.proofs.document.by_units.Given as goal

abbrev pub invariant-loop-place : goal.invariant-loop-place
invariant-loop-place l = Passed l.bytes l.place

abbrev pub decreases-loop-place : goal.decreases-loop-place
decreases-loop-place l = length l.bytes - l.place
