-- Laws of formulas: of their renderings and their refusals. They hold of every text.
use Rattle.std.specs.Prelude.{◌≡◌, ◌≢◌, ◌⊎◌, ℕ, List, None}
use Rattle.std.specs.Str.{chars}
use Rattle.latex2mathml_grammar.specs.{Dollars.IsDollarFree, Rendering.IsFormulaRefusal, Rendering.IsRendering}
use Rattle.latex2mathml_grammar.specs.{Grammar.ReadsFormula, Spelling.HasTokens}
use Rattle.latex2mathml_trees.specs.{Arguments.HaveNoArgument, MathSchema.IsMathElement, Tree.Tree, Tree.trees_of}
use Rattle.latex2mathml_tokens.specs.{Refusal.Refusal, Refusal.InvalidNumberOfDollarSigns, Tok.Tok, declared.DisplayStyle.DisplayStyle}

-- each rendering of the formula is one `math` element that obeys the child table
abbrev pub RendersElements : List ℕ → DisplayStyle → Type 0
RendersElements text display = (markup : List ℕ) → IsRendering text display markup → IsMathElement markup

-- no rendering of the formula holds a dollar sign
abbrev pub RendersDollarFree : List ℕ → Type 0
RendersDollarFree text = (display : DisplayStyle) (markup : List ℕ) → IsRendering text display markup → IsDollarFree markup

-- in a reading of the formula no function has an argument
abbrev pub ReadsNoArgument : List ℕ → Type 0
ReadsNoArgument text =
    (ts : List Tok) (xs : List Tree) → HasTokens None (chars text) ts → ReadsFormula ts xs → HaveNoArgument (trees_of xs)

-- the formula is not refused for dollar signs
abbrev pub IsNeverForDollars : List ℕ → Type 0
IsNeverForDollars text = (refusal : Refusal) → IsFormulaRefusal text refusal → refusal ≢ InvalidNumberOfDollarSigns

-- the formula, in this display style, has exactly one rendering or exactly one refusal
pub record HasOneRendering (text : List ℕ) (display : DisplayStyle) : Type 0 where
  -- it has a rendering or a refusal
  pub some : ((markup : List ℕ) × IsRendering text display markup) ⊎ ((refusal : Refusal) × IsFormulaRefusal text refusal)
  -- two renderings are the same text
  pub one_rendering : (markup other : List ℕ) → IsRendering text display markup → IsRendering text display other → markup ≡ other
  -- two refusals are the same refusal
  pub one_refusal : (refusal other : Refusal) → IsFormulaRefusal text refusal → IsFormulaRefusal text other → refusal ≡ other
  -- what has a rendering is not refused
  pub never_both : (markup : List ℕ) (refusal : Refusal) → IsRendering text display markup → IsFormulaRefusal text refusal → ⊥

-- what holds of all formulas
pub record RenderingsHold : Type 0 where
  pub elements : (text : List ℕ) (display : DisplayStyle) → RendersElements text display
  pub dollar_free : (text : List ℕ) → RendersDollarFree text
  pub one_rendering : (text : List ℕ) (display : DisplayStyle) → HasOneRendering text display
  pub no_argument : (text : List ℕ) → ReadsNoArgument text
  pub never_for_dollars : (text : List ℕ) → IsNeverForDollars text
