use mir.Val.{SFits}
use Rattle.std.proofs.Common.{◌≡◌, ℤ, Option, arith, of_z, rules, subst, to_z, w32}
use Rattle.std.proofs.lemmas.Int.{ints}
use Rattle.latex2mathml_tex_grammar.specs.Lengths as lengths
use Rattle.latex2mathml_tex_grammar.specs.Refusal.{LengthTooLarge, refusal_at}
use Rattle.latex2mathml_tex_grammar.specs.Rules.{a_box}
use Rattle.latex2mathml_tex_grammar.specs.Scanning.{BeforeLengthInBraces}
use Rattle.latex2mathml_tex_grammar.specs.Meaning.{Raised}
use Rattle.latex2mathml_tex_atoms.specs.Models.{context_of}
use Rattle.latex2mathml_tex.specs.Steps.{TookValue}
use Rattle.latex2mathml_tex.proofs.RuleSteps.{begun}
use Rattle.latex2mathml_tex.proofs.Values.{value_refused, value_refused_within, value_taken, value_within}
use Rattle.latex2mathml_tex.proofs.parse.Parser.raise.Goals as goal

pub returns-in_default-clause-holds : goal.returns-in_default-clause-holds
returns-in_default-clause-holds c = λ s g.
    let p = c.args.self.now in
    let q = c.take_length.new.self in
    let place = c.args.place in
    let took = subst (λ (x : Option ℤ). TookValue place BeforeLengthInBraces lengths.width_of (λ text. refusal_at LengthTooLarge place) p q x) c.in_default.is c.in_ok-height.ensures in
    value_refused lengths.width_of (λ text. refusal_at LengthTooLarge place) place BeforeLengthInBraces p q s (λ x. a_box place (context_of c.args.context) (Raised x)) took g.style g.leads

pub returns-in_default-clause-step : goal.returns-in_default-clause-step
returns-in_default-clause-step c =
    let p = c.args.self.now in
    let q = c.take_length.new.self in
    let place = c.args.place in
    let took = subst (λ (x : Option ℤ). TookValue place BeforeLengthInBraces lengths.width_of (λ text. refusal_at LengthTooLarge place) p q x) c.in_default.is c.in_ok-height.ensures in
    value_refused_within lengths.width_of (λ text. refusal_at LengthTooLarge place) place BeforeLengthInBraces p q 13 (omega arith) c.requires.begin.elements took

pub returns-clause-holds : goal.returns-clause-holds
returns-clause-holds c = λ s g.
    let p = c.args.self.now in
    let q = c.take_length.new.self in
    let place = c.args.place in
    let took = subst (λ (x : Option ℤ). TookValue place BeforeLengthInBraces lengths.width_of (λ text. refusal_at LengthTooLarge place) p q x) c.in-Some.is c.in_ok-height.ensures in
    let height = c.in-Some.height in
    let fits : SFits w32 height = search rules in
    let same : to_z w32 (of_z w32 height) ≡ height = omega (arith, ints) in
    c.open_box.ensures.holds s (rw same (begun (value_taken lengths.width_of (λ text. refusal_at LengthTooLarge place) place BeforeLengthInBraces p q c.in-Some.height s c.args.context (λ x. a_box place (context_of c.args.context) (Raised x)) took g)))

pub returns-clause-step : goal.returns-clause-step
returns-clause-step c =
    let p = c.args.self.now in
    let q = c.take_length.new.self in
    let place = c.args.place in
    let took = subst (λ (x : Option ℤ). TookValue place BeforeLengthInBraces lengths.width_of (λ text. refusal_at LengthTooLarge place) p q x) c.in-Some.is c.in_ok-height.ensures in
    value_within lengths.width_of (λ text. refusal_at LengthTooLarge place) place BeforeLengthInBraces p q c.in-Some.height 6 13 c.open_box.new.self c.open_box.new.next c.open_box.result took (omega arith) c.open_box.ensures.step
