use Rattle.std.proofs.Common.{◌≡◌, ◌∙◌, Some, ap, arith, refl, suc}
use Rattle.latex2mathml_tex_grammar.specs.Refusal.{MissingArgument, refusal_at}
use Rattle.latex2mathml_tex_grammar.specs.Units.{End, Next, Stop}
use Rattle.latex2mathml_tex_units.specs.{Errors.refusal_of, Left.put_back, Left.unit_count, Left.units_at, Left.units_behind, Taking.kind_of, Taking.piece_of, Taking.unit_of}
use Rattle.latex2mathml_tex_units.proofs.Nexts.{passed}
use Rattle.latex2mathml_tex.specs.Steps.{left_of}
use Rattle.latex2mathml_tex.proofs.{Rows.refused_within, Rows.step_within, WordStarts.none_at_end, WordStarts.none_at_stop, WordStarts.none_in_braces, WordStarts.word_begins}
use Rattle.latex2mathml_tex.proofs.parse.Parser.word.Goals as goal

pub returns-in-Close-clause-holds : goal.returns-in-Close-clause-holds
returns-in-Close-clause-holds c = λ s h.
    let p = c.args.self.now in
    let q = c.refuse-in-Close.new.self in
    let others = units_behind p.input in
    let reason : refusal_of q.refusal ≡ Some (refusal_at MissingArgument c.args.place) = rw c.refuse-in-Close.ensures.parser refl in
    let stands : left_of p ≡ Next (unit_of c.in-Unit.unit) others = c.peek.ensures ∙ ap (λ n. put_back n others) c.in-Unit.is in
    rw c.refuse-in-Close.ensures.state (none_in_braces s p c.args.words c.args.place c.args.context h q (rw c.refuse-in-Close.ensures.parser refl) reason (unit_of c.in-Unit.unit) others stands (ap piece_of c.in-Close.is))

pub returns-in-Fault-clause-holds : goal.returns-in-Fault-clause-holds
returns-in-Fault-clause-holds c = λ s h.
    let p = c.args.self.now in
    let q = c.refuse_fault.new.self in
    let r = refusal_at (kind_of c.in-Fault.fault) c.in-Fault.at in
    let stands : left_of p ≡ Stop r = c.peek.ensures ∙ ap (λ n. put_back n (units_behind p.input)) c.in-Fault.is in
    rw c.refuse_fault.ensures.state (none_at_stop s p c.args.words c.args.place c.args.context h q (rw c.refuse_fault.ensures.parser refl) r c.refuse_fault.ensures.refusal stands)

pub returns-in-End-clause-holds : goal.returns-in-End-clause-holds
returns-in-End-clause-holds c = λ s h.
    let p = c.args.self.now in
    let q = c.refuse.new.self in
    let reason : refusal_of q.refusal ≡ Some (refusal_at MissingArgument c.args.place) = rw c.refuse.ensures.parser refl in
    let stands : left_of p ≡ End c.in-End.field-0 = c.peek.ensures ∙ ap (λ n. put_back n (units_behind p.input)) c.in-End.is in
    rw c.refuse.ensures.state (none_at_end s p c.args.words c.args.place c.args.context h q (rw c.refuse.ensures.parser refl) reason c.in-End.field-0 stands)

pub returns-in_default : goal.returns-in_default
returns-in_default c =
    let p = c.args.self.now in
    let i = c.advance.new.self in
    let u = c.in-Unit.unit in
    let stands : left_of p ≡ Next (unit_of u) (units_at i) = passed c.peek.result p.input i c.peek.ensures c.advance.ensures.left ∙ ap (λ n. put_back n (units_at i)) c.in-Unit.is in
    let left : unit_count (left_of p) ≡ suc (unit_count (units_at i)) = ap unit_count stands in
    record {
      holds = λ s h. c.begin_word.ensures.holds s (word_begins s p c.args.words c.args.place c.args.context h i u stands);
      step = step_within p (record p { input = i }) c.begin_word.new.self c.begin_word.new.next c.begin_word.result 13 1 (omega (arith, left)) c.begin_word.ensures.step;
    }

pub returns-in-Close-clause-step : goal.returns-in-Close-clause-step
returns-in-Close-clause-step c =
    refused_within c.args.self.now c.refuse-in-Close.new.self c.args.self.now.input _ c.refuse-in-Close.result c.refuse-in-Close.ensures.parser c.refuse-in-Close.ensures.state 1 (omega arith) (omega arith) (omega (arith, c.requires.elements))

pub returns-in-Fault-clause-step : goal.returns-in-Fault-clause-step
returns-in-Fault-clause-step c =
    refused_within c.args.self.now c.refuse_fault.new.self c.args.self.now.input _ c.refuse_fault.result c.refuse_fault.ensures.parser c.refuse_fault.ensures.state 1 (omega arith) (omega arith) (omega (arith, c.requires.elements))

pub returns-in-End-clause-step : goal.returns-in-End-clause-step
returns-in-End-clause-step c =
    refused_within c.args.self.now c.refuse.new.self c.args.self.now.input _ c.refuse.result c.refuse.ensures.parser c.refuse.ensures.state 1 (omega arith) (omega arith) (omega (arith, c.requires.elements))
