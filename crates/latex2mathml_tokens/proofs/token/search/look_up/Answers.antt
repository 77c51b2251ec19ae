use Rattle.std.proofs.Common.{refl, arith, sym, ◌∙◌}
use Rattle.std.proofs.lemmas.Grind.{common_steps}
use Rattle.latex2mathml_tokens.proofs.Lookups.{begins, found, kept_left, kept_right, none_left}
use Rattle.latex2mathml_tokens.proofs.token.search.look_up.Goals as goal

pub loop-entries-init : goal.loop-entries-init
loop-entries-init c = begins _ _ _ c.half-entries.ensures.same c.half-entries.ensures.ordered c.half-entries.ensures.few c.half-entries.ensures.keyed c.half-entries.ensures.counts

pub returns-in-Equal-clause-entry : goal.returns-in-Equal-clause-entry
returns-in-Equal-clause-entry c = found _ _ _ _ c.loop-entries.invariant (sym c.is_empty.ensures ∙ c.loop-entries-test.true) (sym c.compare.ensures.order ∙ c.in-Equal.is)

pub returns-clause-entry : goal.returns-clause-entry
returns-clause-entry c = none_left _ _ _ c.loop-entries.invariant (sym c.is_empty.ensures ∙ c.loop-entries-test.false)

pub loop-entries-preserved-in-Less : goal.loop-entries-preserved-in-Less
loop-entries-preserved-in-Less c = kept_left _ _ _ _ c.loop-entries.invariant (sym c.is_empty.ensures ∙ c.loop-entries-test.true) _ _ (sym c.compare.ensures.order ∙ c.in-Less.is) refl c.compare.ensures.counts

pub loop-entries-preserved : goal.loop-entries-preserved
loop-entries-preserved c = kept_right _ _ _ _ c.loop-entries.invariant (sym c.is_empty.ensures ∙ c.loop-entries-test.true) _ _ (sym c.compare.ensures.order ∙ c.in-Greater.is) (grind (arith, common_steps)) c.compare.ensures.counts
