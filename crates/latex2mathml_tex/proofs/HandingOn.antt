-- What holds of the parser where a part of a rule hands on a value, or is refused.
use Rattle.std.specs.Prelude.{⊤}
use Rattle.std.proofs.Common.{◌≡◌, ℕ, ◌+◌, ◌<◌, ◌≤◌, List, Option, Some, None, Result, refl, sym, ap, subst, ◌∙◌, arith, sum_by}
use Rattle.std.specs.declared.alloc.AllocError.{AllocError}
use Rattle.latex2mathml_tex_grammar.specs.{Refusal.Refusal, Units.Units}
use Rattle.latex2mathml_tex_grammar.specs.Reading.{Refused, ReadsRule, found_refused, found_taken, rule_refuses}
use Rattle.latex2mathml_tex_grammar.specs.Rules.{Rule, with_value}
use Rattle.latex2mathml_tex_grammar.specs.Scanning.{Spot}
use Rattle.latex2mathml_tex_units.specs.HandedOn.{Stops}
use Rattle.latex2mathml_tex.specs.{Frames.Start, TakenBy.TookBy}
use Rattle.latex2mathml_tex.specs.Steps.{Begins, Follows, HasElements, Holds, Advances, NoValue, TookValue, frame_weight, has_none, is_missing, left_of, level, to_do}
use Rattle.latex2mathml_tex.specs.declared.{parse.Parser.Parser, parse.State.State}
use Rattle.latex2mathml_tex.specs.declared.parse.State.TheVariants as state
use Rattle.latex2mathml_tex_units.proofs.Scanned.{no_more_scanned}
use Rattle.latex2mathml_tex.proofs.{Marks.core_refuses, Rows.refused_within, Rows.step_within, TableRules.refused_at}
use Rattle.latex2mathml_tex.proofs.Values.{ValueRule}

module _ {A : Type 0} (part : (A → Rule) → Rule) (p q : Parser) where
  pub handed_on : (x : A) (s : Start) (more : A → Rule) → TookBy part p q (Some x) → Begins (part more) 0 s p → Begins (more x) 0 s q
  handed_on x s more (same, (fewer, on)) g =
      subst (λ t. Begins (more x) 0 s t) (sym same) (record { style = g.style; leads = record { to = λ o d. g.leads.to o (on more o d) } })

  pub handed_within : (x : A) (n m : ℕ) (new : Parser) (st : State) (answer : Result ⊤ AllocError) → TookBy part p q (Some x) → n ≤ m → Advances n q new st answer → Advances m p new st answer
  handed_within x n m new st answer (same, (fewer, on)) h step =
      let frames : sum_by frame_weight q.frames.stack.items ≡ sum_by frame_weight p.frames.stack.items = ap (λ (x : Parser). sum_by frame_weight x.frames.stack.items) same in
      step_within p q new st answer n m (omega (arith, frames, fewer, h)) step

  pub stopped : (s : Start) (more : A → Rule) → TookBy part p q None → Begins (part more) 0 s p → Holds s q state.Refused
  stopped s more (r, (same, (reported, (fewer, on)))) g =
      refused_at s p q 0 r (ap (λ (x : Parser). x.style) same) reported g.style (core_refuses r (level 0 s p) (g.leads.to _ (on more)))

  pub stopped_within : (m : ℕ) → 0 < m → HasElements 0 p → TookBy part p q None → Follows (to_do p + m) q state.Refused
  stopped_within m some enough (r, (same, (reported, (fewer, on)))) = refused_within p q q.input q.refusal state.Refused same refl m some fewer enough

-- a part after another
module _ {A B : Type 0} (first : (A → Rule) → Rule) (second : A → (B → Rule) → Rule) (p q t : Parser) where
  abbrev pub both : (B → Rule) → Rule
  both more = first (λ x. second x more)

  pub both_taken : (x : A) (y : B) → TookBy first p q (Some x) → TookBy (second x) q t (Some y) → TookBy both p t (Some y)
  both_taken x y (same, (fewer, on)) (then, (behind, more_on)) =
      (then ∙ ap (λ (z : Parser). record z { input = t.input }) same, (omega (arith, fewer, behind), λ more o d. on (λ x. second x more) o (more_on more o d)))

  pub second_stops : (x : A) → TookBy first p q (Some x) → TookBy (second x) q t None → TookBy both p t None
  second_stops x (same, (fewer, on)) (r, (then, (reported, (behind, stops)))) =
      (r, (then ∙ ap (λ (z : Parser). record z { input = t.input; refusal = t.refusal }) same, (reported, (omega (arith, fewer, behind), λ more. on (λ x. second x more) _ (stops more)))))

  pub first_stops : TookBy first p t None → TookBy both p t None
  first_stops (r, (same, (reported, (fewer, stops)))) = (r, (same, (reported, (fewer, λ more. stops (λ x. second x more)))))

-- a part that hands on something that is made of the value
module _ {A B : Type 0} (part : (A → Rule) → Rule) (f : A → B) (p q : Parser) where
  abbrev pub mapped : (B → Rule) → Rule
  mapped more = part (λ x. more (f x))

  pub mapped_taken : (x : A) → TookBy part p q (Some x) → TookBy mapped p q (Some (f x))
  mapped_taken x (same, (fewer, on)) = (same, (fewer, λ more o d. on (λ x. more (f x)) o d))

  pub mapped_stops : TookBy part p q None → TookBy mapped p q None
  mapped_stops (r, (same, (reported, (fewer, stops)))) = (r, (same, (reported, (fewer, λ more. stops (λ x. more (f x))))))

-- a text with a value
module _ {A : Type 0} (value : List ℕ → Option A) (no_value : List ℕ → Refusal) (place : ℕ) (spot : Spot) (p q : Parser) where
  abbrev pub a_value : (A → Rule) → Rule
  a_value more = ValueRule value no_value place spot p q more

  none_stops : (l : Units) (r : Refusal) → NoValue place spot value no_value l r → Stops a_value l r
  none_stops l r (is_missing e) more = found_refused e
  none_stops l r (has_none {text = text} {m = m} e none) more =
      found_taken e (subst (λ v. ReadsRule (with_value (no_value text) more v) m (Refused (no_value text))) (sym none) rule_refuses)

  pub by_value : (x : A) → TookValue place spot value no_value p q (Some x) → TookBy a_value p q (Some x)
  by_value x (same, (text, (is, known))) =
      (same, (no_more_scanned place (left_of p) (left_of q) spot text is, λ more o d. found_taken is (subst (λ v. ReadsRule (with_value (no_value text) more v) (left_of q) o) (sym known) d)))

  pub by_no_value : TookValue place spot value no_value p q None → TookBy a_value p q None
  by_no_value (r, (same, (reported, (fewer, none)))) = (r, (same, (reported, (fewer, none_stops (left_of p) r none))))
