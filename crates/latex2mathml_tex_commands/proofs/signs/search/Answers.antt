use Rattle.std.proofs.Common.{refl, arith, sym, ◌∙◌}
use Rattle.std.proofs.lemmas.Grind.{common_steps}
use Rattle.latex2mathml_tex_commands.proofs.SignLookups.{whole_table, kept_left, kept_right, found, middle}
use Rattle.latex2mathml_tex_commands.proofs.signs.search.Goals as goal

pub loop-entries-init : goal.loop-entries-init
loop-entries-init c = whole_table _ _ c.requires.ordered c.requires.few

pub loop-entries-preserved-then-c-entry : goal.loop-entries-preserved-then-c-entry
loop-entries-preserved-then-c-entry c = kept_left _ _ _ _ _ _ c.loop-entries.invariant (middle _ (sym c.is_empty.ensures ∙ c.loop-entries-test.true)) c.if-c-entry.true refl

pub loop-entries-preserved : goal.loop-entries-preserved
loop-entries-preserved c = kept_right _ _ _ _ _ _ c.loop-entries.invariant (middle _ (sym c.is_empty.ensures ∙ c.loop-entries-test.true)) c.if-c-entry-2.true (grind (arith, common_steps))

pub returns-else-c-entry-2 : goal.returns-else-c-entry-2
returns-else-c-entry-2 c = found _ _ _ _ _ c.loop-entries.invariant (middle _ (sym c.is_empty.ensures ∙ c.loop-entries-test.true)) (omega arith)
