use Rattle.std.proofs.Common.{arith, refl, sym, ◌∙◌}
use Rattle.latex2mathml_tex_grammar.specs.Refusal.{MissingArgument, refusal_at}
use Rattle.latex2mathml_tex_units.specs.{Left.units_behind, Taking.kind_of}
use Rattle.latex2mathml_tex.specs.Steps.{left_of}
use Rattle.latex2mathml_tex.proofs.Beginning.{ends_next, no_more_next, no_operand_at_end, no_operand_begins, no_operand_there, one_less_next, refused_next, stands_next, stops_next}
use Rattle.latex2mathml_tex.proofs.Rows.{refused_here, step_within}
use Rattle.latex2mathml_tex.proofs.parse.Parser.other_operand.Goals as goal

pub returns-then-is_no_operand-clause-holds : goal.returns-then-is_no_operand-clause-holds
returns-then-is_no_operand-clause-holds c = λ s g.
    let p = c.args.self.now in
    let i = c.skip_space.new.self in
    let q = c.refuse-then-is_no_operand.new.self in
    let r = refusal_at MissingArgument c.args.place in
    let none = no_operand_begins s p c.args.place c.requires.due g c.in-Unit.unit (units_behind i) (stands_next (left_of p) i c.skip_space.ensures.left c.peek.result c.peek.ensures c.in-Unit.unit c.in-Unit.is) (sym c.is_no_operand.ensures ∙ c.if-is_no_operand.true) in
    refused_here p q i q.refusal c.refuse-then-is_no_operand.result (rw c.refuse-then-is_no_operand.ensures.parser refl) c.refuse-then-is_no_operand.ensures.state s r (rw c.refuse-then-is_no_operand.ensures.parser refl) g.style none

pub returns-then-is_no_operand-clause-step : goal.returns-then-is_no_operand-clause-step
returns-then-is_no_operand-clause-step c =
    let p = c.args.self.now in
    let i = c.skip_space.new.self in
    let q = c.refuse-then-is_no_operand.new.self in
    refused_next p q i q.refusal c.refuse-then-is_no_operand.result (rw c.refuse-then-is_no_operand.ensures.parser refl) c.refuse-then-is_no_operand.ensures.state (no_more_next (left_of p) i c.skip_space.ensures.left) c.requires.ready.elements

pub returns-in-Fault-clause-holds : goal.returns-in-Fault-clause-holds
returns-in-Fault-clause-holds c = λ s g.
    let p = c.args.self.now in
    let i = c.skip_space.new.self in
    let q = c.refuse_fault.new.self in
    let r = refusal_at (kind_of c.in-Fault.fault) c.in-Fault.at in
    let none = no_operand_there s p c.args.place c.requires.due g r (stops_next (left_of p) i c.skip_space.ensures.left c.peek.result c.peek.ensures c.in-Fault.fault c.in-Fault.at c.in-Fault.is) in
    refused_here p q i q.refusal c.refuse_fault.result c.refuse_fault.ensures.parser c.refuse_fault.ensures.state s r c.refuse_fault.ensures.refusal g.style none

pub returns-in-End-clause-holds : goal.returns-in-End-clause-holds
returns-in-End-clause-holds c = λ s g.
    let p = c.args.self.now in
    let i = c.skip_space.new.self in
    let q = c.refuse.new.self in
    let r = refusal_at MissingArgument c.args.place in
    let none = no_operand_at_end s p c.args.place c.requires.due g c.in-End.field-0 (ends_next (left_of p) i c.skip_space.ensures.left c.peek.result c.peek.ensures c.in-End.field-0 c.in-End.is) in
    refused_here p q i q.refusal c.refuse.result (rw c.refuse.ensures.parser refl) c.refuse.ensures.state s r (rw c.refuse.ensures.parser refl) g.style none

pub returns-else-is_no_operand-clause-step : goal.returns-else-is_no_operand-clause-step
returns-else-is_no_operand-clause-step c =
    let p = c.args.self.now in
    let i = c.skip_space.new.self in
    let behind = c.advance.new.self in
    let less = one_less_next (left_of p) i c.skip_space.ensures.left c.peek.result c.peek.ensures c.in-Unit.unit behind c.in-Unit.is c.advance.ensures.left in
    step_within p (record p { input = behind }) c.begin_operand.new.self c.begin_operand.new.next c.begin_operand.result 13 1 (omega (arith, less)) c.begin_operand.ensures.step

pub returns-in-Fault-clause-step : goal.returns-in-Fault-clause-step
returns-in-Fault-clause-step c =
    let p = c.args.self.now in
    let i = c.skip_space.new.self in
    let q = c.refuse_fault.new.self in
    refused_next p q i q.refusal c.refuse_fault.result c.refuse_fault.ensures.parser c.refuse_fault.ensures.state (no_more_next (left_of p) i c.skip_space.ensures.left) c.requires.ready.elements

pub returns-in-End-clause-step : goal.returns-in-End-clause-step
returns-in-End-clause-step c =
    let p = c.args.self.now in
    let i = c.skip_space.new.self in
    let q = c.refuse.new.self in
    refused_next p q i q.refusal c.refuse.result (rw c.refuse.ensures.parser refl) c.refuse.ensures.state (no_more_next (left_of p) i c.skip_space.ensures.left) c.requires.ready.elements
