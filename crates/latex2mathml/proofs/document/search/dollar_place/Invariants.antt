-- No byte that a loop passed is a dollar sign.
use Rattle.std.proofs.Common.{length, ◌-◌, ◌≤◌}
use Rattle.latex2mathml.specs.Pieces.{HoldsNoDollar}
use Rattle.latex2mathml.proofs.document.search.dollar_place.Given as goal

abbrev pub invariant-loop-place : goal.invariant-loop-place
invariant-loop-place l = (l.place ≤ length l.bytes) × HoldsNoDollar l.bytes 0 l.place

abbrev pub decreases-loop-place : goal.decreases-loop-place
decreases-loop-place l = length l.bytes - l.place

abbrev pub invariant-loop-place-2 : goal.invariant-loop-place-2
invariant-loop-place-2 l = (l.place ≤ length l.bytes) × HoldsNoDollar l.bytes 0 l.place

abbrev pub decreases-loop-place-2 : goal.decreases-loop-place-2
decreases-loop-place-2 l = length l.bytes - l.place
