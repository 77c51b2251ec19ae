use Rattle.std.proofs.Common.{Some, ap, option_map, sym, ◌∙◌}
use Rattle.std.proofs.lemmas.Result.{err_from_is_err_and}
use Rattle.latex2mathml_tex_grammar.specs.Units.{Command}
use Rattle.latex2mathml_tex_units.specs.{Bodies.macro_of, Dues.due_of, Pending.pending_units, MacroTables.table_of, Taking.piece_of}
use Rattle.latex2mathml_tex_units.proofs.Tables.{usual_no_name}
use Rattle.latex2mathml_tex_units.proofs.Turning.{defined_there, refused_by, replaced_by, turn_used, usual_there}
use Rattle.latex2mathml_tex_units.proofs.macros.expander.Expander.turn.Goals as goal

pub returns-in-Some-clause-turned : goal.returns-in-Some-clause-turned
returns-in-Some-clause-turned c =
    let there = defined_there c.args.self.now.macros c.args.name.now (macro_of c.deref-in-Some.result.now) (ap (λ m. Some (macro_of m)) c.deref-in-Some.ensures ∙ c.in-Some.ensures) in
    replaced_by c.args.self.now.macros c.args.name.now c.args.place c.args.self.now.uses c.args.self.now.room _ _ (due_of c.args.self.now.due) c.is_due-whole.result (pending_units c.args.self.now.pending) _ (macro_of c.deref-in-Some.result.now) c.is_due-whole.ensures there
    (ap (λ m. option_map piece_of m.alias) (c.deref-in-Some.ensures ∙ sym c.deref.ensures) ∙ ap (option_map piece_of) c.in_default-alias.is)
    (c.in_ok-replace.ensures (table_of c.args.self.now.macros) (Command c.args.name.now))

pub returns-in_err-replace-2-clause-turned : goal.returns-in_err-replace-2-clause-turned
returns-in_err-replace-2-clause-turned c =
    let p = err_from_is_err_and c.from_residual-in_err-replace-2.result c.from_residual-in_err-replace-2.ensures.1 in
    let there = usual_there c.args.self.now.macros c.args.name.now c.in_ok-found.field-0 c.in-Some-2.found c.in_default.ensures c.in_ok-found.ensures c.in-Some-2.is in
    let usual = usual_no_name c.args.name.now (macro_of c.in-Some-2.found) (sym c.in_ok-found.ensures ∙ ap (option_map macro_of) c.in-Some-2.is) in
    rw (p.1, p.2) (refused_by c.in_err-replace-2.field-0.0 _ _ (table_of c.args.self.now.macros) _ _ _ _ _
    (turn_used c.args.self.now.macros c.args.name.now c.args.place c.args.self.now.uses c.args.self.now.room (due_of c.args.self.now.due) c.is_due-whole.result (pending_units c.args.self.now.pending) (macro_of c.in-Some-2.found) c.is_due-whole.ensures there usual)
    (c.in_err-replace-2.ensures (table_of c.args.self.now.macros) (Command c.args.name.now)))

pub returns-in-Some-2-clause-turned : goal.returns-in-Some-2-clause-turned
returns-in-Some-2-clause-turned c =
    let there = usual_there c.args.self.now.macros c.args.name.now c.in_ok-found.field-0 c.in-Some-2.found c.in_default.ensures c.in_ok-found.ensures c.in-Some-2.is in
    let usual = usual_no_name c.args.name.now (macro_of c.in-Some-2.found) (sym c.in_ok-found.ensures ∙ ap (option_map macro_of) c.in-Some-2.is) in
    replaced_by c.args.self.now.macros c.args.name.now c.args.place c.args.self.now.uses c.args.self.now.room _ _ (due_of c.args.self.now.due) c.is_due-whole.result (pending_units c.args.self.now.pending) _ (macro_of c.in-Some-2.found) c.is_due-whole.ensures there usual
    (c.in_ok-replace-2.ensures (table_of c.args.self.now.macros) (Command c.args.name.now))
