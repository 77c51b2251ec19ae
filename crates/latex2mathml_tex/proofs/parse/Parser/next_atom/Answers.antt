use Rattle.std.proofs.Common.{◌≡◌, ◌∙◌, refl, sym}
use Rattle.latex2mathml_tex_grammar.specs.{Next.past_space, Refusal.refusal_at}
use Rattle.latex2mathml_tex_grammar.specs.Units.{End, Stop}
use Rattle.latex2mathml_tex_units.specs.{Left.units_at, Taking.kind_of, Taking.unit_of}
use Rattle.latex2mathml_tex_units.proofs.Nexts.{passed}
use Rattle.latex2mathml_tex.specs.Steps.{left_of}
use Rattle.latex2mathml_tex.proofs.NoAtom.{closing_step, ended_step, no_unit_there, row_can_close, row_closed, text_ended, unit_next, unit_step}
use Rattle.latex2mathml_tex.proofs.parse.Parser.next_atom.Goals as goal

pub end_row-requires-clause-ends : goal.end_row-requires-clause-ends
end_row-requires-clause-ends c = λ place. sym (c.if-is.ensures place)

pub end_row-requires-clause-can : goal.end_row-requires-clause-can
end_row-requires-clause-can c =
    let due = c.requires.due in
    row_can_close c.args.self.now c.args.ending c.args.place c.args.row c.args.context due.0 due.1 c.advance.new.self c.take-then-is.new.self c.take-then-is.result c.take-then-is.ensures c.requires.ready.elements c.requires.ready.may_come

pub returns-then-is-clause-holds : goal.returns-then-is-clause-holds
returns-then-is-clause-holds c = λ s h.
    let p = c.args.self.now in
    let due = c.requires.due in
    let next = unit_next (left_of p) (units_at c.advance.new.self) _ _ c.in-Unit.unit c.skip_space.ensures.left (passed c.peek.result c.skip_space.new.self c.advance.new.self c.peek.ensures c.advance.ensures.left) c.in-Unit.is in
    c.end_row.ensures.holds s (row_closed p c.args.ending c.args.place c.args.row c.args.context due.0 due.1 s h c.advance.new.self c.take-then-is.new.self c.take-then-is.result c.in-Unit.unit c.take-then-is.ensures next (c.if-is.ensures c.args.place))

pub returns-then-is-clause-step : goal.returns-then-is-clause-step
returns-then-is-clause-step c =
    let p = c.args.self.now in
    let next = unit_next (left_of p) (units_at c.advance.new.self) _ _ c.in-Unit.unit c.skip_space.ensures.left (passed c.peek.result c.skip_space.new.self c.advance.new.self c.peek.ensures c.advance.ensures.left) c.in-Unit.is in
    closing_step p c.advance.new.self c.take-then-is.new.self c.take-then-is.result (unit_of c.in-Unit.unit) c.end_row.new.self c.end_row.new.next c.end_row.result c.take-then-is.ensures next c.end_row.ensures.step

pub returns-in-Fault-clause-holds : goal.returns-in-Fault-clause-holds
returns-in-Fault-clause-holds c = λ s h.
    let p = c.args.self.now in
    let due = c.requires.due in
    let r = refusal_at (kind_of c.in-Fault.fault) c.in-Fault.at in
    let stop : past_space (left_of p) ≡ Stop r = sym c.skip_space.ensures.left ∙ c.peek.ensures ∙ rw c.in-Fault.is refl in
    rw c.refuse_fault.ensures.state (no_unit_there p c.args.ending c.args.place c.args.row c.args.context due.0 due.1 s h c.refuse_fault.new.self r stop (rw c.refuse_fault.ensures.parser refl) c.refuse_fault.ensures.refusal)

pub end_of_text-requires : goal.end_of_text-requires
end_of_text-requires c =
    let due = c.requires.due in
    record { can = row_can_close c.args.self.now c.args.ending c.args.place c.args.row c.args.context due.0 due.1 c.skip_space.new.self c.take.new.self c.take.result c.take.ensures c.requires.ready.elements c.requires.ready.may_come }

pub returns-in-End-clause-holds : goal.returns-in-End-clause-holds
returns-in-End-clause-holds c = λ s h.
    let p = c.args.self.now in
    let due = c.requires.due in
    let units : units_at c.skip_space.new.self ≡ End c.in-End.at = c.peek.ensures ∙ rw c.in-End.is refl in
    let end : past_space (left_of p) ≡ End c.in-End.at = sym c.skip_space.ensures.left ∙ units in
    c.end_of_text.ensures.holds s (text_ended p c.args.ending c.args.place c.args.row c.args.context due.0 due.1 s h c.skip_space.new.self c.take.new.self c.take.result c.in-End.at c.take.ensures end units)

pub returns-in-End-clause-step : goal.returns-in-End-clause-step
returns-in-End-clause-step c =
    let p = c.args.self.now in
    let due = c.requires.due in
    ended_step p c.args.ending c.args.place c.args.row c.args.context due.0 due.1 c.skip_space.new.self c.take.new.self c.take.result c.end_of_text.new.self c.end_of_text.new.next c.end_of_text.result c.take.ensures c.skip_space.ensures.left c.end_of_text.ensures.step

pub returns-else-is-clause-step : goal.returns-else-is-clause-step
returns-else-is-clause-step c =
    let p = c.args.self.now in
    let next = unit_next (left_of p) (units_at c.advance.new.self) _ _ c.in-Unit.unit c.skip_space.ensures.left (passed c.peek.result c.skip_space.new.self c.advance.new.self c.peek.ensures c.advance.ensures.left) c.in-Unit.is in
    unit_step p c.advance.new.self (unit_of c.in-Unit.unit) c.begin_atom.new.self c.begin_atom.new.next c.begin_atom.result next c.begin_atom.ensures.step
