-- The text that results from a formula in LaTeX as authors write it, after definitions of macros. The inputs are lists of
-- bytes.
use Rattle.std.specs.Prelude.{◌≡◌, ◌==◌, ◌<◌, ◌≤◌, ◌⊎◌, ℕ, Bool, true, false, List, IsUtf8, codes}
use Rattle.std.specs.Str.{chars}
use Rattle.latex2mathml.specs.{Elements.IsMathElement, Formulas.DisplayStyle}
use Rattle.latex2mathml_elements.specs.{Annotated.IsAnnotatedMathElement, Characters.IsAllowed, Dollars.IsDollarFree}
use Rattle.latex2mathml_tex_units.specs.ErrorTexts.{refusal_text}
use Rattle.latex2mathml_tex.specs.Answers.{IsAnswer, IsAnswerWithSource, IsRefusal, style_in}
use Rattle.latex2mathml_tex_grammar.specs.{DefinitionTexts.AreRefused, DefinitionTexts.Defines, Macros.Table, Refusal.Refusal}
use Rattle.latex2mathml_c.specs.declared.{Request.Request, Status.Status}
use Rattle.latex2mathml_c.specs.declared.Status.TheVariants.{Done, Refused, NotUtf8, DefinitionRefused, UnknownFlags}

-- the text is the markup of the formula under these macros, which is one `math` element. It contains the text of the formula
-- if an annotation is requested.
abbrev pub IsElementOf : Bool → Table → List ℕ → DisplayStyle → List ℕ → Type 0
IsElementOf false macros tex display text = IsAnswer macros tex (style_in display) text × IsMathElement text
IsElementOf true macros tex display text = IsAnswerWithSource macros tex (style_in display) text × IsAnnotatedMathElement text

-- the text is such markup, without a character that XML forbids and without a dollar sign
abbrev pub IsMarkup : Bool → Table → List ℕ → DisplayStyle → List ℕ → Type 0
IsMarkup is_annotated macros tex display text = IsElementOf is_annotated macros tex display text × IsAllowed text × IsDollarFree text

-- a refusal is reported: its place, and its text
abbrev pub IsTold : Refusal → ℕ → List ℕ → Type 0
IsTold refusal place text = (place ≡ refusal.place) × (text ≡ refusal_text refusal)

-- The text that results from a formula after definitions, its status, and the place of what is refused, or 0 if nothing is
-- refused. An annotation is requested or not.
abbrev pub IsRead : Bool → List ℕ → List ℕ → DisplayStyle → ℕ → Status → List ℕ → Type 0
IsRead is_annotated definitions tex display place Done text =
    (place ≡ 0) × ((macros : Table) × Defines (chars definitions) macros × IsMarkup is_annotated macros tex display text)
IsRead is_annotated definitions tex display place Refused text =
    (macros : Table) × Defines (chars definitions) macros
    × ((refusal : Refusal) × IsRefusal macros tex (style_in display) refusal × IsTold refusal place text)
IsRead is_annotated definitions tex display place DefinitionRefused text =
    (refusal : Refusal) × AreRefused (chars definitions) refusal × IsTold refusal place text
IsRead is_annotated definitions tex display place status text = ⊥

-- what a call is given
pub record Given : Type 0 where
  pub definitions : List ℕ
  pub tex : List ℕ
  pub display : DisplayStyle
  pub flags : ℕ

abbrev pub given_by : Request → Given
given_by request = record {
  definitions = request.definitions.now;
  tex = request.tex.now;
  display = request.display;
  flags = request.flags;
}

-- the flag that requests an annotation, the only flag there is
abbrev pub annotation : ℕ
annotation = 1

-- no other flag is set, and both texts are UTF-8
pub record IsReadable (given : Given) : Type 0 where
  pub known_flags : given.flags ≤ annotation
  pub definitions : IsUtf8 given.definitions
  pub tex : IsUtf8 given.tex

-- a sentence says which of the two texts is not UTF-8: the definitions, if neither is
abbrev pub IsNoText : Given → List ℕ → Type 0
IsNoText given text =
    ((¬ IsUtf8 given.definitions) × (text ≡ codes "The definitions are not UTF-8 text."))
    ⊎ (IsUtf8 given.definitions × (¬ IsUtf8 given.tex) × (text ≡ codes "The input is not UTF-8 text."))

-- the text that results from a call, its status, and the place of what is refused, or 0 if nothing is refused
abbrev pub IsTexText : Given → ℕ → Status → List ℕ → Type 0
IsTexText given place UnknownFlags text =
    (place ≡ 0) × (annotation < given.flags) × (text ≡ codes "The flags must be 0 or LATEX2MATHML_ANNOTATION.")
IsTexText given place NotUtf8 text = (place ≡ 0) × (given.flags ≤ annotation) × IsNoText given text
IsTexText given place status text =
    IsReadable given × IsRead (given.flags == annotation) given.definitions given.tex given.display place status text

-- the text and the status result from a call, whatever the place is
abbrev pub HasTexText : Given → Status → List ℕ → Type 0
HasTexText given status text = (place : ℕ) × IsTexText given place status text
