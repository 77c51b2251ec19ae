use mir.Val.{SFits}
use Rattle.std.proofs.Common.{◌≡◌, ℤ, ℕ, List, Option, None, Some, Ok, [], ◌∷◌, arith, of_z, rules, subst, to_z, w32}
use Rattle.std.proofs.lemmas.Int.{ints}
use Rattle.latex2mathml_tex_grammar.specs.Lengths as lengths
use Rattle.latex2mathml_tex_grammar.specs.Refusal.{LengthTooLarge, refusal_at}
use Rattle.latex2mathml_tex_grammar.specs.Rules.{Rule, a_bar, a_character, a_length}
use Rattle.latex2mathml_tex_grammar.specs.Scanning.{AtBracket, InLength}
use Rattle.latex2mathml_tex_units.specs.Left.{units_at}
use Rattle.latex2mathml_tex.specs.Steps.{BeginsIn, TookValue, left_of}
use Rattle.latex2mathml_tex.specs.declared.parse.Parser.{Parser}
use Rattle.latex2mathml_tex.specs.declared.parse.State.TheVariants as state
use Rattle.latex2mathml_tex_units.proofs.Nexts.{no_more_taken}
use Rattle.latex2mathml_tex.proofs.{Putting.past_none, Putting.past_units, RuleSteps.begun, Rows.step_within}
use Rattle.latex2mathml_tex.proofs.Values.{value_refused, value_refused_within, value_taken, value_within}
use Rattle.latex2mathml_tex.proofs.parse.Parser.rectangle.Goals as goal

abbrev behind_bracket : ℕ → List ℕ → Rule
behind_bracket place bracket = a_length place (InLength AtBracket) (λ height. a_bar place (Some height))

pub returns-in_default-clause-holds : goal.returns-in_default-clause-holds
returns-in_default-clause-holds c = λ s g.
    let p = c.args.self.now in
    let i = c.take_character.new.self in
    let p_in : Parser = record p { input = i } in
    let q = c.take_length.new.self in
    let place = c.args.place in
    let took = subst (λ (x : Option ℤ). TookValue place (InLength AtBracket) lengths.width_of (λ text. refusal_at LengthTooLarge place) p_in q x) c.in_default.is c.in_ok-height.ensures in
    let begins = past_units s p i (behind_bracket place) (91 ∷ []) c.if-take_character.ensures.next (begun g) in
    value_refused lengths.width_of (λ text. refusal_at LengthTooLarge place) place (InLength AtBracket) p_in q s (λ height. a_bar place (Some height)) took begins.style begins.leads

pub returns-in_default-clause-step : goal.returns-in_default-clause-step
returns-in_default-clause-step c =
    let p = c.args.self.now in
    let i = c.take_character.new.self in
    let p_in : Parser = record p { input = i } in
    let q = c.take_length.new.self in
    let place = c.args.place in
    let took = subst (λ (x : Option ℤ). TookValue place (InLength AtBracket) lengths.width_of (λ text. refusal_at LengthTooLarge place) p_in q x) c.in_default.is c.in_ok-height.ensures in
    let less = no_more_taken (a_character 91 ∷ []) (left_of p) (units_at i) (91 ∷ []) c.if-take_character.ensures.next in
    step_within p p_in q state.Refused (Ok tt) 13 13 (omega (arith, less)) (value_refused_within lengths.width_of (λ text. refusal_at LengthTooLarge place) place (InLength AtBracket) p_in q 13 (omega arith) c.requires.begin.elements took)

pub returns-then-take_character-clause-holds : goal.returns-then-take_character-clause-holds
returns-then-take_character-clause-holds c = λ s g.
    let p = c.args.self.now in
    let i = c.take_character.new.self in
    let p_in : Parser = record p { input = i } in
    let q = c.take_length.new.self in
    let place = c.args.place in
    let took = subst (λ (x : Option ℤ). TookValue place (InLength AtBracket) lengths.width_of (λ text. refusal_at LengthTooLarge place) p_in q x) c.in-Some.is c.in_ok-height.ensures in
    let behind = past_units s p i (behind_bracket place) (91 ∷ []) c.if-take_character.ensures.next (begun g) in
    let begins : BeginsIn c.args.context (behind_bracket place (91 ∷ [])) 0 s p_in = record { style = behind.style; context = g.context; leads = behind.leads } in
    let height = c.in-Some.height in
    let fits : SFits w32 height = search rules in
    let same : to_z w32 (of_z w32 height) ≡ height = omega (arith, ints) in
    c.bar.ensures.holds s (rw same (value_taken lengths.width_of (λ text. refusal_at LengthTooLarge place) place (InLength AtBracket) p_in q c.in-Some.height s c.args.context (λ height. a_bar place (Some height)) took begins))

pub returns-then-take_character-clause-step : goal.returns-then-take_character-clause-step
returns-then-take_character-clause-step c =
    let p = c.args.self.now in
    let i = c.take_character.new.self in
    let p_in : Parser = record p { input = i } in
    let q = c.take_length.new.self in
    let place = c.args.place in
    let took = subst (λ (x : Option ℤ). TookValue place (InLength AtBracket) lengths.width_of (λ text. refusal_at LengthTooLarge place) p_in q x) c.in-Some.is c.in_ok-height.ensures in
    let less = no_more_taken (a_character 91 ∷ []) (left_of p) (units_at i) (91 ∷ []) c.if-take_character.ensures.next in
    step_within p p_in c.bar.new.self c.bar.new.next c.bar.result 13 13 (omega (arith, less)) (value_within lengths.width_of (λ text. refusal_at LengthTooLarge place) place (InLength AtBracket) p_in q c.in-Some.height 13 13 c.bar.new.self c.bar.new.next c.bar.result took (omega arith) c.bar.ensures.step)

pub returns-clause-holds : goal.returns-clause-holds
returns-clause-holds c = λ s g.
    let p = c.args.self.now in
    let i = c.take_character.new.self in
    let p_in : Parser = record p { input = i } in
    let place = c.args.place in
    let behind = past_none s p i (a_bar place None) c.if-take_character.ensures.next.0 c.if-take_character.ensures.next.1 (begun g) in
    let begins : BeginsIn c.args.context (a_bar place None) 0 s p_in = record { style = behind.style; context = g.context; leads = behind.leads } in
    c.bar-2.ensures.holds s begins

pub returns-clause-step : goal.returns-clause-step
returns-clause-step c =
    let p = c.args.self.now in
    let i = c.take_character.new.self in
    step_within p (record p { input = i }) c.bar-2.new.self c.bar-2.new.next c.bar-2.result 13 13 (rw c.if-take_character.ensures.next.1 (omega arith)) c.bar-2.ensures.step
