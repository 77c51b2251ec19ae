-- A formula has markup or is refused, and never both.
use Rattle.std.proofs.Common.{◌≢◌, ℕ, false, List, Option, Some, None, Result, Ok, Err, Global, IsTrue, refl, string_bytes}
use Rattle.std.specs.Prelude.{◌↔◌, IfOk, IfSome, String}
use Rattle.latex2mathml.specs.Formulas.{DisplayStyle, HasOneRendering, IfRefused, IsFormulaRefusal, IsRendering, Refusal, refusal_of}
use Rattle.latex2mathml.specs.declared.LatexError.{LatexError}
use Rattle.latex2mathml_uses.specs.{Cached.IsOnlyRendering, Checked.HasRendering}
use Rattle.latex2mathml_uses.proofs.CachedRenderings.{only_rendering}

module _ (text : List ℕ) (display : DisplayStyle) (one : HasOneRendering text display) where
  -- what is refused has no markup
  pub no_markup : (told : Option Refusal) → told ≢ None → IfSome told (IsFormulaRefusal text) → IsTrue false ↔ HasRendering text display
  no_markup None some refused = absurd (some refl)
  no_markup (Some refusal) some refused = (λ e. cc, λ has. absurd (one.never_both has.0 refusal has.1 refused))

  pub only_markup : (result : Result (String Global) LatexError) → IfOk result (λ markup. IsRendering text display (string_bytes markup)) → IfOk result (λ markup. IsOnlyRendering text display (string_bytes markup))
  only_markup (Ok markup) is = only_rendering text display (string_bytes markup) one is
  only_markup (Err error) is = tt

  -- what has markup is not refused
  pub not_refused : HasRendering text display → (result : Result (String Global) LatexError) → IfRefused result (IsFormulaRefusal text) → IfRefused result (λ refusal. ⊥)
  not_refused has (Ok markup) is = tt
  not_refused has (Err error) is = by (refusal_of error) is
    where
      by : (told : Option Refusal) → IfSome told (IsFormulaRefusal text) → IfSome told (λ refusal. ⊥)
      by None refused = tt
      by (Some refusal) refused = one.never_both has.0 refusal has.1 refused
