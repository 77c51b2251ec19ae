-- An input of the calls that read what the Rust crate reads results in one text.
use Rattle.std.proofs.Common.{◌≡◌, ◌≢◌, ℕ, List, Option, Some, None, refl, sym, ap, ◌∙◌}
use Rattle.std.specs.Prelude.{IfSome, IsUtf8}
use Rattle.latex2mathml.specs.Formulas.{Refusal, error_text, refusal_text, RenderingsHold}
use Rattle.latex2mathml.specs.Conversions.{Conversion, IsConverted, IsRefusedAs, formula, document}
use Rattle.latex2mathml.specs.DocumentLaws.{AnswersHold}
use Rattle.latex2mathml_c.specs.Texts.{IsText, conversion_of}
use Rattle.latex2mathml_c.specs.declared.{Job.Job, Status.Status}
use Rattle.latex2mathml_c.specs.declared.Status.TheVariants.{Done, Refused, NotUtf8, TooSmall, OutOfMemory, DefinitionRefused, UnknownFlags}
use Rattle.latex2mathml_c.proofs.Calls.{AreTexts}

-- the text of an error that reports a refusal is the text of that refusal
pub refusal_told : (job : Job) (input : List ℕ) (refusal : Option Refusal) (text : List ℕ) → IsUtf8 input → IfSome refusal (IsRefusedAs (conversion_of job) input) → refusal ≢ None → text ≡ error_text refusal → IsText job input Refused text
refusal_told job input (Some refusal) text utf8 refused some told = (utf8, (refusal, refused, told))
refusal_told job input None text utf8 refused some told = absurd (some refl)

pub are_texts : (job : Job) (input : List ℕ) → AreTexts (IsText job input)
are_texts job input = record { roomy = λ text is. is; found = λ text is. is }

-- by the laws of formulas and documents
module _ (formulas : RenderingsHold) (documents : AnswersHold) where
  one_markup : (conversion : Conversion) (input text other : List ℕ) → IsConverted conversion input text → IsConverted conversion input other → text ≡ other
  one_markup (formula display) input text other is also = (formulas.one_rendering input display).one_rendering text other is.0 also.0
  one_markup document input text other is also = (documents.one_outcome input).one_answer text other is.0 also.0

  one_refusal : (conversion : Conversion) (input : List ℕ) (refusal other : Refusal) → IsRefusedAs conversion input refusal → IsRefusedAs conversion input other → refusal ≡ other
  one_refusal (formula display) input refusal other is also = (formulas.one_rendering input display).one_refusal refusal other is also
  one_refusal document input refusal other is also = (documents.one_outcome input).one_refusal refusal other is also

  never_both : (conversion : Conversion) (input markup : List ℕ) (refusal : Refusal) → IsConverted conversion input markup → IsRefusedAs conversion input refusal → ⊥
  never_both (formula display) input markup refusal is also = (formulas.one_rendering input display).never_both markup refusal is.0 also
  never_both document input markup refusal is also = (documents.one_outcome input).never_both markup refusal is.0 also

  -- two texts of an input are the same text
  pub one_text : (job : Job) (input : List ℕ) (status : Status) (text : List ℕ) (other : Status) (again : List ℕ) → IsText job input status text → IsText job input other again → text ≡ again
  one_text job input Done text Done again is also = one_markup (conversion_of job) input text again is.1 also.1
  one_text job input Done text Refused again is also = absurd (never_both (conversion_of job) input text also.1.0 is.1 also.1.1)
  one_text job input Done text NotUtf8 again is also = absurd (also.0 is.0)
  one_text job input Refused text Done again is also = absurd (never_both (conversion_of job) input again is.1.0 also.1 is.1.1)
  one_text job input Refused text Refused again is also = is.1.2 ∙ ap refusal_text (one_refusal (conversion_of job) input is.1.0 also.1.0 is.1.1 also.1.1) ∙ sym also.1.2
  one_text job input Refused text NotUtf8 again is also = absurd (also.0 is.0)
  one_text job input NotUtf8 text Done again is also = absurd (is.0 also.0)
  one_text job input NotUtf8 text Refused again is also = absurd (is.0 also.0)
  one_text job input NotUtf8 text NotUtf8 again is also = is.1 ∙ sym also.1
  one_text job input TooSmall text other again is also = absurd is
  one_text job input OutOfMemory text other again is also = absurd is
  one_text job input DefinitionRefused text other again is also = absurd is
  one_text job input UnknownFlags text other again is also = absurd is
  one_text job input status text TooSmall again is also = absurd also
  one_text job input status text OutOfMemory again is also = absurd also
  one_text job input status text DefinitionRefused again is also = absurd also
  one_text job input status text UnknownFlags again is also = absurd also
