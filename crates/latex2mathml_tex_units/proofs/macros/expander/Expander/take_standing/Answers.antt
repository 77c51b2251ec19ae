use Rattle.std.proofs.Common.{◌-◌, ap, drop, length, refl, take}
use Rattle.latex2mathml_tex_units.specs.{Dues.due_of, Left.units_left, MacroTables.table_of}
use Rattle.latex2mathml_tex_units.proofs.Standing.{standing_left, usual_alone}
use Rattle.latex2mathml_tex_units.proofs.macros.expander.Expander.take_standing.Goals as goal

pub returns : goal.returns
returns c =
    standing_left c.pass_all.result c.args.self.now.refused c.args.self.now.pending.put.items c.args.units.now.items c.take_standing.new.units.items _ (length c.as_slice-listed.result.now) c.is_empty-usual.result (units_left c.args.self.now.pending.lexer) (units_left c.take_standing.new.self) (table_of c.args.self.now.macros) c.args.self.now.uses c.args.self.now.room (due_of c.args.self.now.due) (due_of c.pass_all.new.self)
    c.if-is_some.ensures (c.if-not-is_text.ensures refl) c.in_ok-take_standing.ensures (usual_alone c.is_empty-usual.result c.args.self.now.macros c.is_empty-usual.ensures)
    (ap (λ us. take (length us - length c.as_slice-listed.result.now) (drop (length c.as_slice-listed.result.now) us)) c.deref.ensures.value) (ap length c.as_slice-listed.ensures.value) c.pass_all.ensures
