use Rattle.std.proofs.Common.{subst}
use Rattle.latex2mathml.specs.Pieces.{HoldsNoDollar}
use Rattle.latex2mathml.proofs.Searches.{free_before, none_further}
use Rattle.latex2mathml.proofs.document.search.dollar_place.Goals as goal

pub returns-in-Some-clause-free : goal.returns-in-Some-clause-free
returns-in-Some-clause-free c =
    free_before c.args.text.now c.in-Some.found
    (subst (λ t. HoldsNoDollar t 0 c.in-Some.found) c.as_bytes-bytes.ensures.value (none_further c.as_bytes-bytes.result.now c.loop-place.place c.in-Some.found c.loop-place.invariant.1 c.in-Some.ensures.none_before))

pub returns-else-bytes-place-ne36-clause-free : goal.returns-else-bytes-place-ne36-clause-free
returns-else-bytes-place-ne36-clause-free c = free_before c.args.text.now c.loop-place-2.place (subst (λ t. HoldsNoDollar t 0 c.loop-place-2.place) c.as_bytes-bytes.ensures.value c.loop-place-2.invariant.1)

pub returns-after-loop-place-2-clause-free : goal.returns-after-loop-place-2-clause-free
returns-after-loop-place-2-clause-free c = free_before c.args.text.now c.loop-place-2.place (subst (λ t. HoldsNoDollar t 0 c.loop-place-2.place) c.as_bytes-bytes.ensures.value c.loop-place-2.invariant.1)
