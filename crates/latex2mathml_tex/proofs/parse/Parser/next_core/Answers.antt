use Rattle.std.proofs.Common.{arith, refl}
use Rattle.latex2mathml_tex_grammar.specs.Refusal.{MissingArgument, refusal_at}
use Rattle.latex2mathml_tex_units.specs.Taking.{kind_of}
use Rattle.latex2mathml_tex.specs.Steps.{left_of}
use Rattle.latex2mathml_tex.proofs.Beginning.{core_begins, ends_next, no_core_at_end, no_core_there, one_less_next, stops_next, taken_next}
use Rattle.latex2mathml_tex.proofs.Rows.{refused_here, step_within}
use Rattle.latex2mathml_tex.proofs.parse.Parser.next_core.Goals as goal

pub returns-in-Fault-clause-holds : goal.returns-in-Fault-clause-holds
returns-in-Fault-clause-holds c = λ s g.
    let p = c.args.self.now in
    let i = c.skip_space.new.self in
    let q = c.refuse_fault.new.self in
    let r = refusal_at (kind_of c.in-Fault.fault) c.in-Fault.at in
    let none = no_core_there s p c.args.place c.requires.due g r (stops_next (left_of p) i c.skip_space.ensures.left c.peek.result c.peek.ensures c.in-Fault.fault c.in-Fault.at c.in-Fault.is) in
    refused_here p q i q.refusal c.refuse_fault.result c.refuse_fault.ensures.parser c.refuse_fault.ensures.state s r c.refuse_fault.ensures.refusal g.style none

pub returns-in-End-clause-holds : goal.returns-in-End-clause-holds
returns-in-End-clause-holds c = λ s g.
    let p = c.args.self.now in
    let i = c.skip_space.new.self in
    let q = c.refuse.new.self in
    let r = refusal_at MissingArgument c.args.place in
    let none = no_core_at_end s p c.args.place c.requires.due g c.in-End.field-0 (ends_next (left_of p) i c.skip_space.ensures.left c.peek.result c.peek.ensures c.in-End.field-0 c.in-End.is) in
    refused_here p q i q.refusal c.refuse.result (rw c.refuse.ensures.parser refl) c.refuse.ensures.state s r (rw c.refuse.ensures.parser refl) g.style none

pub returns-in-Unit-clause-holds : goal.returns-in-Unit-clause-holds
returns-in-Unit-clause-holds c = λ s g.
    let p = c.args.self.now in
    let i = c.skip_space.new.self in
    let behind = c.advance.new.self in
    let u = c.in-Unit.unit in
    c.begin.ensures.holds s (core_begins s p c.args.place c.requires.due g behind u (taken_next (left_of p) i c.skip_space.ensures.left c.peek.result c.peek.ensures u behind c.in-Unit.is c.advance.ensures.left))

pub returns-in-Unit-clause-step : goal.returns-in-Unit-clause-step
returns-in-Unit-clause-step c =
    let p = c.args.self.now in
    let i = c.skip_space.new.self in
    let behind = c.advance.new.self in
    let less = one_less_next (left_of p) i c.skip_space.ensures.left c.peek.result c.peek.ensures c.in-Unit.unit behind c.in-Unit.is c.advance.ensures.left in
    step_within p (record p { input = behind }) c.begin.new.self c.begin.new.next c.begin.result 13 1 (omega (arith, less)) c.begin.ensures.step
