-- What holds of the parser where the color of a box around an operand, or around words, is taken, or there is none.
use Rattle.std.specs.Prelude.{⊤}
use Rattle.std.proofs.Common.{◌≡◌, ℕ, ◌+◌, ◌≤◌, Option, Some, None, Result, option_map, subst, arith}
use Rattle.std.specs.declared.alloc.AllocError.{AllocError}
use Rattle.latex2mathml_elements.specs.Colors.{Color}
use Rattle.latex2mathml_attributes.specs.Arounds as arounds
use Rattle.latex2mathml_attributes.specs.declared.around.Color.{Color as CodeColor}
use Rattle.latex2mathml_tex_grammar.specs.Colors.{color_of}
use Rattle.latex2mathml_tex_grammar.specs.Meaning.{Box}
use Rattle.latex2mathml_tex_grammar.specs.Refusal.{UnknownColor, refusal_at}
use Rattle.latex2mathml_tex_grammar.specs.Rules.{Context as RuleContext, Rule, a_color}
use Rattle.latex2mathml_tex_grammar.specs.Scanning.{BeforeColor}
use Rattle.latex2mathml_tex.specs.Frames.{Start}
use Rattle.latex2mathml_tex_atoms.specs.Models.{context_of}
use Rattle.latex2mathml_tex.specs.Steps.{Begins, BeginsIn, Follows, HasElements, Holds, Advances, TookValue, to_do}
use Rattle.latex2mathml_tex_atoms.specs.declared.atoms.Context.{Context}
use Rattle.latex2mathml_tex.specs.declared.{parse.Parser.Parser, parse.State.State}
use Rattle.latex2mathml_tex.specs.declared.parse.State.TheVariants as state
use Rattle.latex2mathml_tex.proofs.RuleSteps.{begun}
use Rattle.latex2mathml_tex.proofs.Values.{value_refused, value_refused_within, value_taken, value_within}

-- this color was taken, if there is one
abbrev pub TookColor : ℕ → Parser → Parser → Option CodeColor → Type 0
TookColor place p q x = TookValue place BeforeColor color_of (λ name. refusal_at (UnknownColor name) place) p q (option_map arounds.color_of x)

module _ (boxed : ℕ → RuleContext → Box → Rule) (box : Color → Box) (place : ℕ) (p q : Parser) where
  -- what takes a color, and then an operand or words into the box of this color
  abbrev pub BoxRule : Context → Rule
  BoxRule c = a_color place (λ color. boxed place (context_of c) (box color))

  pub no_color_leads : {x : Option CodeColor} (s : Start) (c : Context) → TookColor place p q x → x ≡ None → BeginsIn c (BoxRule c) 0 s p → Holds s q state.Refused
  no_color_leads s c took none g =
      value_refused color_of (λ name. refusal_at (UnknownColor name) place) place BeforeColor p q s (λ color. boxed place (context_of c) (box color)) (subst (TookColor place p q) none took) g.style g.leads

  pub no_color_within : {x : Option CodeColor} → TookColor place p q x → x ≡ None → HasElements 0 p → Follows (to_do p + 13) q state.Refused
  no_color_within took none enough =
      value_refused_within color_of (λ name. refusal_at (UnknownColor name) place) place BeforeColor p q 13 (omega arith) enough (subst (TookColor place p q) none took)

  pub box_begins : {x : Option CodeColor} (color : CodeColor) (s : Start) (c : Context) → TookColor place p q x → x ≡ Some color → BeginsIn c (BoxRule c) 0 s p → Begins (boxed place (context_of c) (box (arounds.color_of color))) 0 s q
  box_begins color s c took is g =
      begun (value_taken color_of (λ name. refusal_at (UnknownColor name) place) place BeforeColor p q (arounds.color_of color) s c (λ color. boxed place (context_of c) (box color)) (subst (TookColor place p q) is took) g)

  pub box_within : {x : Option CodeColor} (color : CodeColor) (n : ℕ) (new : Parser) (st : State) (answer : Result ⊤ AllocError) → TookColor place p q x → x ≡ Some color → n ≤ 13 → Advances n q new st answer → Advances 13 p new st answer
  box_within color n new st answer took is few step =
      value_within color_of (λ name. refusal_at (UnknownColor name) place) place BeforeColor p q (arounds.color_of color) n 13 new st answer (subst (TookColor place p q) is took) (omega (arith, few)) step
