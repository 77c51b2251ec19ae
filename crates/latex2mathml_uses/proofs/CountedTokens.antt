-- A formula has one list of tokens, so what is read or refused of one is read or refused of each.
use Rattle.std.proofs.Common.{◌≡◌, ◌∙◌, ℕ, List, None, ap, length, map, refl, subst, sym}
use Rattle.std.proofs.lemmas.List.{length-map}
use Rattle.std.specs.Str.{chars}
use Rattle.latex2mathml.specs.Formulas.{DisplayStyle, IsFormulaRefusal, IsRendering, Refusal, TextHasOneReading}
use Rattle.latex2mathml.specs.{Grammar.ReadsFormula, Grammar.Refuses, Spelling.HasTokens, Tok.Tok}
use Rattle.latex2mathml_uses.specs.{Limited.HasTokenCount, Read.IsRead}

module _ (text : List ℕ) (one : TextHasOneReading (chars text)) where
  pub read_each : (display : DisplayStyle) (markup : List ℕ) (count : ℕ) → IsRendering text display markup → HasTokenCount text count → (ts : List Tok) → HasTokens None (chars text) ts → IsRead ts × (count ≡ length ts)
  unfolding IsRendering
  read_each display markup count (us, spelled, reading) (slices, cut, same) ts h =
      let this : us ≡ ts = one.one_list.one us ts spelled h in
      let that : map (λ s. s.token) slices ≡ ts = one.one_list.one _ ts (slices, cut, refl) h in
      ((reading.0, subst (λ l. ReadsFormula l reading.0) this reading.1), same ∙ sym (length-map slices (λ s. s.token)) ∙ ap length that)

  pub refused_each : (refusal : Refusal) → IsFormulaRefusal text refusal → (ts : List Tok) → HasTokens None (chars text) ts → Refuses ts refusal
  unfolding IsFormulaRefusal
  refused_each refusal (us, spelled, refuses) ts h = subst (λ l. Refuses l refusal) (one.one_list.one us ts spelled h) refuses
