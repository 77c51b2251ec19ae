-- What holds of the parser where a value is taken, or none is.
use Rattle.std.specs.Prelude.{⊤}
use Rattle.std.proofs.Common.{◌≡◌, ℕ, ◌+◌, ◌<◌, ◌≤◌, List, Option, Some, None, Result, refl, sym, ap, subst}
use Rattle.std.specs.declared.alloc.AllocError.{AllocError}
use Rattle.latex2mathml_tex_grammar.specs.{Makes.Core, Reading.Outcome, Reading.Refused, Refusal.Refusal}
use Rattle.latex2mathml_tex_grammar.specs.Rules.{Rule, takes_found, with_value}
use Rattle.latex2mathml_tex_grammar.specs.Scanning.{Spot}
use Rattle.latex2mathml_tex_commands.specs.Meanings.{style_of}
use Rattle.latex2mathml_tex_units.specs.{Errors.refusal_of, Left.unit_count}
use Rattle.latex2mathml_tex.specs.{Frames.Start, Levels.CoreMade, Levels.RuleLeads}
use Rattle.latex2mathml_tex.specs.Steps.{BeginsIn, CanBegin, Follows, HasElements, Holds, Advances, NoValue, TookText, TookValue, has_none, is_missing, left_of, level, to_do}
use Rattle.latex2mathml_tex_units.specs.declared.error.TexError.{TexError}
use Rattle.latex2mathml_tex_atoms.specs.declared.atoms.Context.{Context}
use Rattle.latex2mathml_tex.specs.declared.{parse.Parser.Parser, parse.State.State}
use Rattle.latex2mathml_tex.specs.declared.parse.State.TheVariants as state
use Rattle.latex2mathml_tex.proofs.Leading.{found, not_found, refused}
use Rattle.latex2mathml_tex_units.proofs.Scanned.{no_more_scanned}
use Rattle.latex2mathml_tex.proofs.{Marks.core_refuses, Rows.refused_within}
use Rattle.latex2mathml_tex.proofs.TableRules.{refused_at, text_taken, text_within}

module _ {A : Type 0} (value : List ℕ → Option A) (no_value : List ℕ → Refusal) (place : ℕ) (spot : Spot) (p q : Parser) where
  -- what takes a value
  abbrev pub ValueRule : (A → Rule) → Rule
  ValueRule more = takes_found spot place (λ text. with_value (no_value text) more (value text))

  pub value_taken : (x : A) (s : Start) (c : Context) (more : A → Rule) → TookValue place spot value no_value p q (Some x) → BeginsIn c (ValueRule more) 0 s p → BeginsIn c (more x) 0 s q
  value_taken x s c more (same, (text, (is, known))) g =
      subst (λ v. BeginsIn c (with_value (no_value text) more v) 0 s q) known
      (text_taken p q place spot text (same, is) s c (λ text. with_value (no_value text) more (value text)) g)

  pub value_within : (x : A) (n m : ℕ) (new : Parser) (st : State) (answer : Result ⊤ AllocError) → TookValue place spot value no_value p q (Some x) → n ≤ m → Advances n q new st answer → Advances m p new st answer
  value_within x n m new st answer (same, (text, (is, known))) h step = text_within p q place spot text (same, is) n m new st answer h step

  pub value_fewer : (x : A) → TookValue place spot value no_value p q (Some x) → unit_count (left_of q) ≤ unit_count (left_of p)
  value_fewer x (same, (text, (is, known))) = no_more_scanned place (left_of p) (left_of q) spot text is

  pub value_keeps : (x : A) → TookValue place spot value no_value p q (Some x) → CanBegin 0 p → CanBegin 0 q
  value_keeps x (same, (text, (is, known))) can =
      subst (CanBegin 0) (sym same) (record { elements = can.elements; awaits = record { accepted = can.awaits.accepted; nested = can.awaits.nested } })

  none_leads : (r : Refusal) (K : Outcome Core → Type 0) (more : A → Rule) → NoValue place spot value no_value (left_of p) r → RuleLeads (ValueRule more) K (left_of p) → K (Refused r)
  none_leads r K more (is_missing e) k = not_found e k
  none_leads r K more (has_none {text = text} {m = m} e none) k =
      refused (subst (λ v. RuleLeads (with_value (no_value text) more v) K m) none (found (λ text. with_value (no_value text) more (value text)) e k))

  pub value_refused : (s : Start) (more : A → Rule) → TookValue place spot value no_value p q None → s.style ≡ style_of p.style → RuleLeads (ValueRule more) (CoreMade (level 0 s p)) (left_of p) → Holds s q state.Refused
  value_refused s more (r, (same, (reported, (fewer, none)))) style k =
      refused_at s p q 0 r (ap (λ (x : Parser). x.style) same) reported style (core_refuses r (level 0 s p) (none_leads r (CoreMade (level 0 s p)) more none k))

  -- a text was taken, or there is none

  pub value_missing : TookText place spot p q None → TookValue place spot value no_value p q None
  value_missing (r, (same, (reported, (fewer, missing)))) = (r, (same, (reported, (fewer, is_missing missing))))

  pub text_without_value : (text : List ℕ) (new : Parser) (error : TexError) → TookText place spot p q (Some text) → value text ≡ None → new ≡ record q { refusal = error } → refusal_of error ≡ Some (no_value text) → TookValue place spot value no_value p new None
  text_without_value text new error (same, is) none refuses reported =
      subst (λ n. TookValue place spot value no_value p n None) (sym refuses)
      (no_value text, (ap (λ (x : Parser). record x { refusal = error }) same, (reported, (no_more_scanned place (left_of p) (left_of q) spot text is, has_none is none))))

  pub value_refused_within : (m : ℕ) → 0 < m → HasElements 0 p → TookValue place spot value no_value p q None → Follows (to_do p + m) q state.Refused
  value_refused_within m some enough (r, (same, (reported, (fewer, none)))) = refused_within p q q.input q.refusal state.Refused same refl m some fewer enough
