use Rattle.std.proofs.Common.{◌≡◌, ◌∙◌, arith, length, refl, sym, true-eqb}
use Rattle.std.proofs.lemmas.Grind.{common_steps}
use Rattle.latex2mathml_tex_units.specs.Bodies.{named_entry}
use Rattle.latex2mathml_tex_commands.proofs.Lookups.{whole_table, kept_left, kept_right, found, none_left}
use Rattle.latex2mathml_tex_units.proofs.UsualLookups.{its_macro, macro_is}
use Rattle.latex2mathml_tex_units.proofs.macros.usual.find.Goals as goal

pub loop-entries-init : goal.loop-entries-init
loop-entries-init c = whole_table its_macro named_entry _ _ c.requires.ordered c.requires.few

pub returns-in-Equal : goal.returns-in-Equal
returns-in-Equal c = sym (macro_is c.args.table.now c.args.name.now ∙ found its_macro named_entry _ _ _ _ _ c.loop-entries.invariant (sym c.is_empty.ensures ∙ c.loop-entries-test.true) c.order.ensures c.in-Equal.is)

pub loop-entries-preserved-in-Less : goal.loop-entries-preserved-in-Less
loop-entries-preserved-in-Less c = kept_left its_macro named_entry _ _ _ _ _ _ c.loop-entries.invariant (sym c.is_empty.ensures ∙ c.loop-entries-test.true) c.order.ensures c.in-Less.is refl

pub loop-entries-preserved : goal.loop-entries-preserved
loop-entries-preserved c = kept_right its_macro named_entry _ _ _ _ _ _ c.loop-entries.invariant (sym c.is_empty.ensures ∙ c.loop-entries-test.true) c.order.ensures c.in-Greater.is (grind (arith, common_steps))

pub returns : goal.returns
returns c =
    let none : length c.loop-entries.entries.now ≡ 0 = true-eqb _ _ (sym (sym c.is_empty.ensures ∙ c.loop-entries-test.false)) in
    sym (macro_is c.args.table.now c.args.name.now ∙ none_left its_macro named_entry _ c.loop-entries.entries.now c.args.name.now c.loop-entries.invariant none)
