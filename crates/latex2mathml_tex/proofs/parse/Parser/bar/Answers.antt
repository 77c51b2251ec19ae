use mir.Val.{SFits}
use Rattle.std.proofs.Common.{◌≡◌, ℤ, Option, Ok, arith, of_z, refl, rules, subst, to_z, w32}
use Rattle.std.proofs.lemmas.Int.{ints}
use Rattle.latex2mathml_tex_grammar.specs.Lengths as lengths
use Rattle.latex2mathml_tex_grammar.specs.{Makes.bar, Makes.core}
use Rattle.latex2mathml_tex_grammar.specs.Refusal.{LengthTooLarge, refusal_at}
use Rattle.latex2mathml_tex_grammar.specs.Rules.{a_length, gives}
use Rattle.latex2mathml_tex_grammar.specs.Scanning.{BeforeLengthInBraces}
use Rattle.latex2mathml_tex.specs.Steps.{TookValue}
use Rattle.latex2mathml_tex.specs.declared.parse.State.TheVariants as state
use Rattle.latex2mathml_tex.proofs.{Putting.core_put, Putting.core_step, RuleSteps.begun}
use Rattle.latex2mathml_tex.proofs.Values.{value_keeps, value_refused, value_refused_within, value_taken, value_within}
use Rattle.latex2mathml_tex.proofs.parse.Parser.bar.Goals as goal

pub returns-in_default-clause-holds : goal.returns-in_default-clause-holds
returns-in_default-clause-holds c = λ s g.
    let p = c.args.self.now in
    let q = c.take_length.new.self in
    let place = c.args.place in
    let took = subst (λ (x : Option ℤ). TookValue place BeforeLengthInBraces lengths.width_of (λ text. refusal_at LengthTooLarge place) p q x) c.in_default.is c.in_ok-width.ensures in
    value_refused lengths.width_of (λ text. refusal_at LengthTooLarge place) place BeforeLengthInBraces p q s (λ width. a_length place BeforeLengthInBraces (λ height. gives (core (bar c.args.raise width height)))) took g.style g.leads

pub returns-in_default-clause-step : goal.returns-in_default-clause-step
returns-in_default-clause-step c =
    let p = c.args.self.now in
    let q = c.take_length.new.self in
    let place = c.args.place in
    let took = subst (λ (x : Option ℤ). TookValue place BeforeLengthInBraces lengths.width_of (λ text. refusal_at LengthTooLarge place) p q x) c.in_default.is c.in_ok-width.ensures in
    value_refused_within lengths.width_of (λ text. refusal_at LengthTooLarge place) place BeforeLengthInBraces p q 13 (omega arith) c.requires.begin.elements took

pub returns-in_default-2-clause-holds : goal.returns-in_default-2-clause-holds
returns-in_default-2-clause-holds c = λ s g.
    let p = c.args.self.now in
    let q = c.take_length.new.self in
    let t = c.take_length-2.new.self in
    let place = c.args.place in
    let first = subst (λ (x : Option ℤ). TookValue place BeforeLengthInBraces lengths.width_of (λ text. refusal_at LengthTooLarge place) p q x) c.in-Some.is c.in_ok-width.ensures in
    let second = subst (λ (x : Option ℤ). TookValue place BeforeLengthInBraces lengths.width_of (λ text. refusal_at LengthTooLarge place) q t x) c.in_default-2.is c.in_ok-height.ensures in
    let begins = value_taken lengths.width_of (λ text. refusal_at LengthTooLarge place) place BeforeLengthInBraces p q c.in-Some.width s c.args.context (λ width. a_length place BeforeLengthInBraces (λ height. gives (core (bar c.args.raise width height)))) first g in
    value_refused lengths.width_of (λ text. refusal_at LengthTooLarge place) place BeforeLengthInBraces q t s (λ height. gives (core (bar c.args.raise c.in-Some.width height))) second begins.style begins.leads

pub returns-in_default-2-clause-step : goal.returns-in_default-2-clause-step
returns-in_default-2-clause-step c =
    let p = c.args.self.now in
    let q = c.take_length.new.self in
    let t = c.take_length-2.new.self in
    let place = c.args.place in
    let first = subst (λ (x : Option ℤ). TookValue place BeforeLengthInBraces lengths.width_of (λ text. refusal_at LengthTooLarge place) p q x) c.in-Some.is c.in_ok-width.ensures in
    let second = subst (λ (x : Option ℤ). TookValue place BeforeLengthInBraces lengths.width_of (λ text. refusal_at LengthTooLarge place) q t x) c.in_default-2.is c.in_ok-height.ensures in
    let can = value_keeps lengths.width_of (λ text. refusal_at LengthTooLarge place) place BeforeLengthInBraces p q c.in-Some.width first c.requires.begin in
    value_within lengths.width_of (λ text. refusal_at LengthTooLarge place) place BeforeLengthInBraces p q c.in-Some.width 13 13 t state.Refused (Ok tt) first (omega arith)
    (value_refused_within lengths.width_of (λ text. refusal_at LengthTooLarge place) place BeforeLengthInBraces q t 13 (omega arith) can.elements second)

pub returns-clause-holds : goal.returns-clause-holds
returns-clause-holds c = λ s g.
    let p = c.args.self.now in
    let q = c.take_length.new.self in
    let t = c.take_length-2.new.self in
    let place = c.args.place in
    let width = c.in-Some.width in
    let height = c.in-Some-2.height in
    let first = subst (λ (x : Option ℤ). TookValue place BeforeLengthInBraces lengths.width_of (λ text. refusal_at LengthTooLarge place) p q x) c.in-Some.is c.in_ok-width.ensures in
    let second = subst (λ (x : Option ℤ). TookValue place BeforeLengthInBraces lengths.width_of (λ text. refusal_at LengthTooLarge place) q t x) c.in-Some-2.is c.in_ok-height.ensures in
    let begins = value_taken lengths.width_of (λ text. refusal_at LengthTooLarge place) place BeforeLengthInBraces p q width s c.args.context (λ width. a_length place BeforeLengthInBraces (λ height. gives (core (bar c.args.raise width height)))) first g in
    let whole = value_taken lengths.width_of (λ text. refusal_at LengthTooLarge place) place BeforeLengthInBraces q t height s c.args.context (λ height. gives (core (bar c.args.raise width height))) second begins in
    let fits_width : SFits w32 width = search rules in
    let fits_height : SFits w32 height = search rules in
    let same_width : to_z w32 (of_z w32 width) ≡ width = omega (arith, ints) in
    let same_height : to_z w32 (of_z w32 height) ≡ height = omega (arith, ints) in
    core_put s t c.put_bar.new.builder c.new.result (bar c.args.raise width height).element (core (bar c.args.raise width height)) (rw (same_width, same_height) at c.in_ok-put_bar.ensures) (rw c.new.ensures refl) (begun whole)

pub returns-clause-step : goal.returns-clause-step
returns-clause-step c =
    let p = c.args.self.now in
    let q = c.take_length.new.self in
    let t = c.take_length-2.new.self in
    let place = c.args.place in
    let width = c.in-Some.width in
    let height = c.in-Some-2.height in
    let first = subst (λ (x : Option ℤ). TookValue place BeforeLengthInBraces lengths.width_of (λ text. refusal_at LengthTooLarge place) p q x) c.in-Some.is c.in_ok-width.ensures in
    let second = subst (λ (x : Option ℤ). TookValue place BeforeLengthInBraces lengths.width_of (λ text. refusal_at LengthTooLarge place) q t x) c.in-Some-2.is c.in_ok-height.ensures in
    let fits_width : SFits w32 width = search rules in
    let fits_height : SFits w32 height = search rules in
    let same_width : to_z w32 (of_z w32 width) ≡ width = omega (arith, ints) in
    let same_height : to_z w32 (of_z w32 height) ≡ height = omega (arith, ints) in
    let can = value_keeps lengths.width_of (λ text. refusal_at LengthTooLarge place) place BeforeLengthInBraces q t height second (value_keeps lengths.width_of (λ text. refusal_at LengthTooLarge place) place BeforeLengthInBraces p q width first c.requires.begin) in
    value_within lengths.width_of (λ text. refusal_at LengthTooLarge place) place BeforeLengthInBraces p q width 13 13 _ (state.Core c.new.result) (Ok tt) first (omega arith)
    (value_within lengths.width_of (λ text. refusal_at LengthTooLarge place) place BeforeLengthInBraces q t height 13 13 _ (state.Core c.new.result) (Ok tt) second (omega arith)
    (core_step t t.input c.put_bar.new.builder c.new.result (bar c.args.raise width height).element can (rw (same_width, same_height) at c.in_ok-put_bar.ensures) (omega arith)))
