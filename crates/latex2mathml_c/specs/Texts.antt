-- The text that results from a formula or a document, by the calls that read what the Rust crate reads. The input is a list
-- of bytes.
use Rattle.std.specs.Prelude.{◌≡◌, ℕ, List, IsUtf8, codes}
use Rattle.latex2mathml.specs.Formulas.{Refusal, refusal_text}
use Rattle.latex2mathml.specs.Conversions.{Conversion, IsConverted, IsRefusedAs, formula, document}
use Rattle.latex2mathml_c.specs.{declared.Job.Job, declared.Job.TheVariants.Formula, declared.Job.TheVariants.Document}
use Rattle.latex2mathml_c.specs.declared.Status.{Status}
use Rattle.latex2mathml_c.specs.declared.Status.TheVariants.{Done, Refused, NotUtf8}

-- what the job converts its input as
abbrev pub conversion_of : Job → Conversion
conversion_of (Formula display) = formula display
conversion_of Document = document

-- the text that results from the input, and its status: the markup, or why there is none
abbrev pub IsText : Job → List ℕ → Status → List ℕ → Type 0
IsText job input Done text = IsUtf8 input × IsConverted (conversion_of job) input text
IsText job input Refused text =
    IsUtf8 input × ((refusal : Refusal) × IsRefusedAs (conversion_of job) input refusal × (text ≡ refusal_text refusal))
IsText job input NotUtf8 text = (¬ IsUtf8 input) × (text ≡ codes "The input is not UTF-8 text.")
IsText job input status text = ⊥
