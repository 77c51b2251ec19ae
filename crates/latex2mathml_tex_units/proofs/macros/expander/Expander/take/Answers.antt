use Rattle.std.proofs.Common.{◌∙◌, ap, refl}
use Rattle.latex2mathml_tex_grammar.specs.{Expanding.expansion, Operands.due_behind}
use Rattle.latex2mathml_tex_grammar.specs.Units as units
use Rattle.latex2mathml_tex_units.specs.{Dues.due_of, Pending.pending_units, MacroTables.table_of, Taking.piece_of, Taking.unit_of}
use Rattle.latex2mathml_tex_units.specs.declared.unit.Unit.{Unit}
use Rattle.latex2mathml_tex_units.specs.declared.unit.Next.TheVariants as next
use Rattle.latex2mathml_tex_units.proofs.Turning.{ended, halted_left, is_halted, no_command, stood, takes_left, turned_on, turned_smaller}
use Rattle.latex2mathml_tex_units.proofs.macros.expander.Expander.take.Goals as goal

pub returns-in_default-next : goal.returns-in_default-next
returns-in_default-next c = takes_left c.take-next.result _ _ _ _ c.in_default.is c.units.invariant.none
    (ended c.take-next.result (table_of c.units.self.macros) c.units.self.uses c.units.self.room (due_of c.units.self.due) (pending_units c.units.self.pending) (pending_units c.take-next.new.self) _ c.units.invariant.same c.in_default-next.not-Unit c.take-next.ensures)

pub returns-in_default-piece : goal.returns-in_default-piece
returns-in_default-piece c = takes_left c.take-next.result _ _ _ _ c.in_default.is c.units.invariant.none
    (stood c.take-next.result (table_of c.units.self.macros) c.units.self.uses c.units.self.room (due_of c.units.self.due) c.in-Unit.unit (unit_of c.in-Unit.unit) (pending_units c.units.self.pending) (pending_units c.take-next.new.self) _ _ c.in-Unit.is c.units.invariant.same c.in-Unit.ensures
    (no_command (table_of c.units.self.macros) c.units.self.uses c.units.self.room (due_of c.units.self.due) c.in-Unit.unit (pending_units c.take-next.new.self) c.in_default-piece.not-Command) refl
    (ap (λ d. expansion (table_of c.units.self.macros) c.units.self.uses c.units.self.room d (pending_units c.take-next.new.self)) c.in_ok-pass.ensures))

pub returns-in-Ok-Some : goal.returns-in-Ok-Some
returns-in-Ok-Some c =
    let turned = rw c.in-Ok-Some.field-0-is at c.in-Ok-Some.ensures.turned in
    let found : Unit = record { piece = c.in-Ok-Some.piece; place = c.in-Unit.unit.place } in
    let is = c.in-Unit.ensures ∙ ap (λ p. units.Next (units.unit (piece_of p) c.in-Unit.unit.place) (pending_units c.take-next.new.self)) c.in-Command.is in
    takes_left (next.Unit found) _ _ _ _ c.in_default.is (c.turn.ensures.refused ∙ c.units.invariant.none)
    (stood (next.Unit found) (table_of c.units.self.macros) c.units.self.uses c.units.self.room (due_of c.units.self.due) found (units.unit (units.Command c.in-Command.name.now) c.in-Unit.unit.place) (pending_units c.units.self.pending) (pending_units c.take-next.new.self) _ _ refl c.units.invariant.same is turned.0 refl
    (turned.1 _ ∙ ap (λ d. expansion (table_of c.units.self.macros) c.units.self.uses c.units.self.room d (pending_units c.take-next.new.self)) (c.in_ok-pass-in-Ok-Some.ensures ∙ ap (λ d. due_behind (piece_of c.in-Ok-Some.piece) (due_of d)) c.turn.ensures.due)))

pub returns-in-Err : goal.returns-in-Err
returns-in-Err c = c.halted.ensures _ (halted_left c.in-Err.halt _ _ c.in_default.is
    (is_halted c.in-Err.halt _ _ (table_of c.units.self.macros) c.units.self.uses c.units.self.room (due_of c.units.self.due) (unit_of c.in-Unit.unit) (units.unit (units.Command c.in-Command.name.now) c.in-Unit.unit.place) (pending_units c.units.self.pending) (pending_units c.take-next.new.self) _ c.units.invariant.same c.in-Unit.ensures
    (ap (λ p. units.unit (piece_of p) c.in-Unit.unit.place) c.in-Command.is) c.in-Err.ensures.turned))

pub units-smaller : goal.units-smaller
units-smaller c =
    let turned = rw c.in-Ok-None.field-0-is at c.in-Ok-None.ensures.turned in
    turned_smaller (table_of c.units.self.macros) (table_of c.turn.new.self.macros) c.units.self.uses c.units.self.room c.turn.new.self.uses c.turn.new.self.room (due_of c.units.self.due) (unit_of c.in-Unit.unit) (units.unit (units.Command c.in-Command.name.now) c.in-Unit.unit.place) (pending_units c.units.self.pending) (pending_units c.take-next.new.self) (pending_units c.turn.new.self.pending) c.in-Unit.ensures turned

pub units-preserved : goal.units-preserved
units-preserved c =
    let turned = rw c.in-Ok-None.field-0-is at c.in-Ok-None.ensures.turned in
    record {
      none = c.turn.ensures.refused ∙ c.units.invariant.none;
      same = ap (λ d. expansion (table_of c.turn.new.self.macros) c.turn.new.self.uses c.turn.new.self.room (due_of d) (pending_units c.turn.new.self.pending)) c.turn.ensures.due
          ∙ turned_on (table_of c.units.self.macros) (table_of c.turn.new.self.macros) c.units.self.uses c.units.self.room c.turn.new.self.uses c.turn.new.self.room (due_of c.units.self.due) (unit_of c.in-Unit.unit) (units.unit (units.Command c.in-Command.name.now) c.in-Unit.unit.place) (pending_units c.units.self.pending) (pending_units c.take-next.new.self) (pending_units c.turn.new.self.pending) _ c.units.invariant.same c.in-Unit.ensures
          (ap (λ p. units.unit (piece_of p) c.in-Unit.unit.place) c.in-Command.is) turned;
    }
