-- What a text is converted as, what it becomes, and how it is refused.
use Rattle.std.specs.Prelude.{◌≡◌, ℕ, List, MatchResult, None, Result, String, string_bytes}
use Rattle.std.specs.declared.alloc.Global.{Global}
use Rattle.latex2mathml.specs.Documents.{IsAnswer, IsRefusal}
use Rattle.latex2mathml_grammar.specs.{Dollars.IsDollarFree, Rendering.IsFormulaRefusal, Rendering.IsRendering}
use Rattle.latex2mathml_trees.specs.MathSchema.{IsMathElement}
use Rattle.latex2mathml_tokens.specs.{Refusal.Refusal, Refusal.refusal_of, declared.DisplayStyle.DisplayStyle, declared.error.LatexError.LatexError}

-- one formula with its display style, or a document
pub data Conversion : Type 0 where
  formula : DisplayStyle → Conversion
  document : Conversion

-- a formula becomes its rendering, which is one `math` element, and a document its answer; neither holds a dollar sign
abbrev pub IsConverted : Conversion → List ℕ → List ℕ → Type 0
IsConverted (formula display) text markup = IsRendering text display markup × IsMathElement markup × IsDollarFree markup
IsConverted document text markup = IsAnswer text markup × IsDollarFree markup

-- the text is refused with this refusal
abbrev pub IsRefusedAs : Conversion → List ℕ → Refusal → Type 0
IsRefusedAs (formula display) text refusal = IsFormulaRefusal text refusal
IsRefusedAs document text refusal = IsRefusal text refusal

-- the text is its own answer, unless memory runs out
abbrev pub IsKept : List ℕ → Result (String Global) LatexError → Type 0
IsKept text result = MatchResult result (λ answer. string_bytes answer ≡ text) (λ error. refusal_of error ≡ None)
