use Rattle.std.proofs.Common.{arith, map, refl, sym, ◌∙◌}
use Rattle.std.proofs.lemmas.Grind.{common_steps}
use Rattle.latex2mathml_tex_commands.specs.Meanings.{entry_of}
use Rattle.latex2mathml_tex_commands.proofs.Lookups.{whole_table, kept_left, kept_right, found, its_meaning, meaning_is}
use Rattle.latex2mathml_tex_commands.proofs.commands.search_names.Goals as goal

pub loop-entries-init : goal.loop-entries-init
loop-entries-init c = whole_table its_meaning entry_of _ _ c.requires.ordered c.requires.few

pub returns-in-Equal : goal.returns-in-Equal
returns-in-Equal c = meaning_is (map entry_of c.args.table.now) c.args.name.now ∙ found its_meaning entry_of _ _ _ _ _ c.loop-entries.invariant (sym c.is_empty.ensures ∙ c.loop-entries-test.true) c.cmp.ensures c.in-Equal.is

pub loop-entries-preserved-in-Less : goal.loop-entries-preserved-in-Less
loop-entries-preserved-in-Less c = kept_left its_meaning entry_of _ _ _ _ _ _ c.loop-entries.invariant (sym c.is_empty.ensures ∙ c.loop-entries-test.true) c.cmp.ensures c.in-Less.is refl

pub loop-entries-preserved : goal.loop-entries-preserved
loop-entries-preserved c = kept_right its_meaning entry_of _ _ _ _ _ _ c.loop-entries.invariant (sym c.is_empty.ensures ∙ c.loop-entries-test.true) c.cmp.ensures c.in-Greater.is (grind (arith, common_steps))
