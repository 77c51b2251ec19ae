-- What a page shows for a user-supplied formula.
use Rattle.std.specs.Prelude.{◌≡◌, ◌⊎◌, ℕ, List, ◌++◌, codes}
use Rattle.latex2mathml.specs.{Print.print, Tree.undefined}
use Rattle.latex2mathml.specs.Formulas.{Refusal, refusal_text, IsFormulaRefusal, IsRendering, Inline}

-- a text that is not a formula, marked as an error
abbrev pub reason_print : List ℕ → List ℕ
reason_print text = codes "<math>" ++ (print (undefined text) ++ codes "</math>")

-- the rendering of the formula, or the reason why it is refused
abbrev pub IsShown : List ℕ → List ℕ → Type 0
IsShown formula shown =
    IsRendering formula Inline shown
    ⊎ ((refusal : Refusal) × IsFormulaRefusal formula refusal × (shown ≡ reason_print (refusal_text refusal)))
