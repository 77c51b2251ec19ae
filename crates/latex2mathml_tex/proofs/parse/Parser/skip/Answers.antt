use mir.Val.{SFits}
use Rattle.std.proofs.Common.{◌≡◌, ◌∙◌, ◌∷◌, ◌+◌, ℤ, Option, ap, arith, of_z, refl, rules, subst, sym, to_z, w32}
use Rattle.std.proofs.lemmas.Int.{ints}
use Rattle.latex2mathml_elements.specs.Element.{rectangle}
use Rattle.latex2mathml_attributes.specs.Arounds.{extent_of}
use Rattle.latex2mathml_builder.specs.Built.{elements_in}
use Rattle.latex2mathml_tex_grammar.specs.Lengths as lengths
use Rattle.latex2mathml_tex_grammar.specs.{Makes.blank, Makes.core}
use Rattle.latex2mathml_tex_grammar.specs.Refusal.{LengthTooLarge, refusal_at}
use Rattle.latex2mathml_tex_grammar.specs.Rules.{gives}
use Rattle.latex2mathml_tex_units.specs.Scans.{spot_of}
use Rattle.latex2mathml_tex.specs.Steps.{Follows, TookValue, to_do}
use Rattle.latex2mathml_tex.specs.declared.parse.State.TheVariants as state
use Rattle.latex2mathml_tex.proofs.{Putting.core_put, Putting.core_step, RuleSteps.begun}
use Rattle.latex2mathml_tex.proofs.Values.{value_fewer, value_refused, value_refused_within, value_taken}
use Rattle.latex2mathml_tex.proofs.parse.Parser.skip.Goals as goal

pub returns-in_default-clause-holds : goal.returns-in_default-clause-holds
returns-in_default-clause-holds c = λ s g.
    let p = c.args.self.now in
    let q = c.take_length.new.self in
    let place = c.args.place in
    let spot = spot_of c.args.spot in
    let took = subst (λ (x : Option ℤ). TookValue place spot lengths.width_of (λ text. refusal_at LengthTooLarge place) p q x) c.in_default.is c.in_ok-width.ensures in
    value_refused lengths.width_of (λ text. refusal_at LengthTooLarge place) place spot p q s (λ width. gives (core (blank width))) took g.style g.leads

pub returns-in_default-clause-step : goal.returns-in_default-clause-step
returns-in_default-clause-step c =
    let p = c.args.self.now in
    let q = c.take_length.new.self in
    let place = c.args.place in
    let spot = spot_of c.args.spot in
    let took = subst (λ (x : Option ℤ). TookValue place spot lengths.width_of (λ text. refusal_at LengthTooLarge place) p q x) c.in_default.is c.in_ok-width.ensures in
    value_refused_within lengths.width_of (λ text. refusal_at LengthTooLarge place) place spot p q 13 (omega arith) c.requires.begin.elements took

pub returns-clause-holds : goal.returns-clause-holds
returns-clause-holds c = λ s g.
    let p = c.args.self.now in
    let q = c.take_length.new.self in
    let place = c.args.place in
    let spot = spot_of c.args.spot in
    let width = c.in-Some.width in
    let took = subst (λ (x : Option ℤ). TookValue place spot lengths.width_of (λ text. refusal_at LengthTooLarge place) p q x) c.in-Some.is c.in_ok-width.ensures in
    let begins = value_taken lengths.width_of (λ text. refusal_at LengthTooLarge place) place spot p q width s c.args.context (λ width. gives (core (blank width))) took g in
    let fits : SFits w32 width = search rules in
    let same : to_z w32 (of_z w32 width) ≡ width = omega (arith, ints) in
    core_put s q c.rectangle.new.self c.new.result (rectangle (extent_of c.wide.result)) (core (blank width)) c.in_ok-rectangle.ensures.elements (rw (c.wide.ensures, same, c.new.ensures) refl) (begun begins)

pub returns-clause-step : goal.returns-clause-step
returns-clause-step c =
    let p = c.args.self.now in
    let q = c.take_length.new.self in
    let place = c.args.place in
    let spot = spot_of c.args.spot in
    let took = subst (λ (x : Option ℤ). TookValue place spot lengths.width_of (λ text. refusal_at LengthTooLarge place) p q x) c.in-Some.is c.in_ok-width.ensures in
    let fewer = value_fewer lengths.width_of (λ text. refusal_at LengthTooLarge place) place spot p q c.in-Some.width took in
    let put = c.in_ok-rectangle.ensures.elements ∙ ap (λ x. rectangle (extent_of c.wide.result) ∷ elements_in x.builder) took.0 in
    subst (λ x. Follows (to_do p + 13) (record x { builder = c.rectangle.new.self }) (state.Core c.new.result)) (sym took.0)
    (core_step p q.input c.rectangle.new.self c.new.result (rectangle (extent_of c.wide.result)) c.requires.begin put fewer)
