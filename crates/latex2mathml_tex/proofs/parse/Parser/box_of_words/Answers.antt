use mir.Val.{SFits}
use Rattle.std.proofs.Common.{◌≡◌, ℤ, Option, arith, of_z, rules, subst, to_z, w32}
use Rattle.std.proofs.lemmas.Int.{ints}
use Rattle.latex2mathml_elements.specs.Attributes.{Below}
use Rattle.latex2mathml_tex_grammar.specs.Lengths as lengths
use Rattle.latex2mathml_tex_grammar.specs.{Makes.accent, Scanning.BeforeLengthInBraces, WordBoxes.a_box_of_words}
use Rattle.latex2mathml_tex_grammar.specs.Meaning.{Colored, OnColor, Raised}
use Rattle.latex2mathml_tex_grammar.specs.Refusal.{LengthTooLarge, refusal_at}
use Rattle.latex2mathml_attributes.specs.Names.{stretch_of}
use Rattle.latex2mathml_tex_atoms.specs.Models.{context_of}
use Rattle.latex2mathml_tex.specs.Steps.{TookValue}
use Rattle.latex2mathml_tex.proofs.ColoredBoxes.{box_begins, box_within, no_color_leads}
use Rattle.latex2mathml_tex.proofs.{Leading.words_operand_due, RuleSteps.begun}
use Rattle.latex2mathml_tex.proofs.Values.{value_refused, value_taken, value_within}
use Rattle.latex2mathml_tex.proofs.parse.Parser.box_of_words.Goals as goal

pub returns-in_default-clause-holds : goal.returns-in_default-clause-holds
returns-in_default-clause-holds c = λ s g0.
    let g = rw c.in-Raised.is at g0 in
    let p = c.args.self.now in
    let q = c.take_length.new.self in
    let place = c.args.place in
    let took = subst (λ (x : Option ℤ). TookValue place BeforeLengthInBraces lengths.width_of (λ text. refusal_at LengthTooLarge place) p q x) c.in_default.is c.in_ok-height-in-Raised.ensures in
    value_refused lengths.width_of (λ text. refusal_at LengthTooLarge place) place BeforeLengthInBraces p q s (λ x. a_box_of_words place (context_of c.args.context) (Raised x)) took g.style g.leads

pub returns-in_default-2-clause-holds : goal.returns-in_default-2-clause-holds
returns-in_default-2-clause-holds c = λ s g.
    no_color_leads a_box_of_words Colored c.args.place c.args.self.now c.take_color.new.self s c.args.context c.in_ok-color-in-Colored.ensures c.in_default-2.is (rw c.in-Colored.is at g)

pub returns-in_default-3-clause-holds : goal.returns-in_default-3-clause-holds
returns-in_default-3-clause-holds c = λ s g.
    no_color_leads a_box_of_words OnColor c.args.place c.args.self.now c.take_color-in-Highlighted.new.self s c.args.context c.in_ok-color-in-Highlighted.ensures c.in_default-3.is (rw c.in-Highlighted.is at g)

pub returns-in-Some-clause-holds : goal.returns-in-Some-clause-holds
returns-in-Some-clause-holds c = λ s g0.
    let g = rw c.in-Raised.is at g0 in
    let p = c.args.self.now in
    let q = c.take_length.new.self in
    let place = c.args.place in
    let took = subst (λ (x : Option ℤ). TookValue place BeforeLengthInBraces lengths.width_of (λ text. refusal_at LengthTooLarge place) p q x) c.in-Some.is c.in_ok-height-in-Raised.ensures in
    let height = c.in-Some.height in
    let fits : SFits w32 height = search rules in
    let same : to_z w32 (of_z w32 height) ≡ height = omega (arith, ints) in
    c.open_word_box-in-Raised.ensures.holds s (rw same (begun (value_taken lengths.width_of (λ text. refusal_at LengthTooLarge place) place BeforeLengthInBraces p q c.in-Some.height s c.args.context (λ x. a_box_of_words place (context_of c.args.context) (Raised x)) took g)))

pub returns-in-Some-clause-step : goal.returns-in-Some-clause-step
returns-in-Some-clause-step c =
    let p = c.args.self.now in
    let q = c.take_length.new.self in
    let place = c.args.place in
    let took = subst (λ (x : Option ℤ). TookValue place BeforeLengthInBraces lengths.width_of (λ text. refusal_at LengthTooLarge place) p q x) c.in-Some.is c.in_ok-height-in-Raised.ensures in
    value_within lengths.width_of (λ text. refusal_at LengthTooLarge place) place BeforeLengthInBraces p q c.in-Some.height 10 13 c.open_word_box-in-Raised.new.self c.open_word_box-in-Raised.new.next c.open_word_box-in-Raised.result took (omega arith) c.open_word_box-in-Raised.ensures.step

pub returns-in-Some-2-clause-holds : goal.returns-in-Some-2-clause-holds
returns-in-Some-2-clause-holds c = λ s g.
    c.open_word_box-in-Colored.ensures.holds s (box_begins a_box_of_words Colored c.args.place c.args.self.now c.take_color.new.self c.in-Some-2.color s c.args.context c.in_ok-color-in-Colored.ensures c.in-Some-2.is (rw c.in-Colored.is at g))

pub returns-in-Some-2-clause-step : goal.returns-in-Some-2-clause-step
returns-in-Some-2-clause-step c =
    box_within a_box_of_words Colored c.args.place c.args.self.now c.take_color.new.self c.in-Some-2.color 10 c.open_word_box-in-Colored.new.self c.open_word_box-in-Colored.new.next c.open_word_box-in-Colored.result c.in_ok-color-in-Colored.ensures c.in-Some-2.is (omega arith) c.open_word_box-in-Colored.ensures.step

pub returns-in-Some-3-clause-holds : goal.returns-in-Some-3-clause-holds
returns-in-Some-3-clause-holds c = λ s g.
    c.open_word_box-in-Highlighted.ensures.holds s (box_begins a_box_of_words OnColor c.args.place c.args.self.now c.take_color-in-Highlighted.new.self c.in-Some-3.color s c.args.context c.in_ok-color-in-Highlighted.ensures c.in-Some-3.is (rw c.in-Highlighted.is at g))

pub returns-in-Some-3-clause-step : goal.returns-in-Some-3-clause-step
returns-in-Some-3-clause-step c =
    box_within a_box_of_words OnColor c.args.place c.args.self.now c.take_color-in-Highlighted.new.self c.in-Some-3.color 10 c.open_word_box-in-Highlighted.new.self c.open_word_box-in-Highlighted.new.next c.open_word_box-in-Highlighted.result c.in_ok-color-in-Highlighted.ensures c.in-Some-3.is (omega arith) c.open_word_box-in-Highlighted.ensures.step

pub returns-in-Marked-clause-holds : goal.returns-in-Marked-clause-holds
returns-in-Marked-clause-holds c = λ s g0.
    let g = rw c.in-Marked.is at g0 in
    c.open_words.ensures.holds s g.style (words_operand_due (accent Below c.in-Marked.mark (stretch_of c.in-Marked.stretch)) g.leads)
