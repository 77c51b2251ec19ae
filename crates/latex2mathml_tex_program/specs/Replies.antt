-- What the program makes of formulas under some macros. Here a text is its bytes.
use Rattle.std.specs.Prelude.{◌≡◌, ◌≢◌, ℕ, Bool, true, false, List, [], ◌∷◌, ◌++◌, IfSome, codes}
use Rattle.latex2mathml_tex_units.specs.{ErrorTexts.error_text, Errors.refusal_of, declared.error.TexError.TexError}
use Rattle.latex2mathml_tex.specs.Answers.{IsAnswer, IsAnswerWithSource, IsRefusal, style_in}
use Rattle.latex2mathml_tex_grammar.specs.{Macros.Table, Refusal.Refusal, Symbols.Style}
use Rattle.latex2mathml_tokens.specs.declared.DisplayStyle.{DisplayStyle}
use Rattle.latex2mathml_tokens.specs.declared.DisplayStyle.TheVariants.{Block, Inline}
use Rattle.latex2mathml_tex_program.specs.declared.request.{Display.Display, Format.Format}
use Rattle.latex2mathml_tex_program.specs.declared.request.Display.TheVariants.{All, Each}

-- the text holds this formula, with this display style
pub data HoldsFormula (text : List ℕ) : Display → DisplayStyle → List ℕ → Type 0 where
  as_all : {style : DisplayStyle} → HoldsFormula text (All style) style text
  -- the first line says the style
  in_line : (tex : List ℕ) → text ≡ codes "inline\n" ++ tex → HoldsFormula text Each Inline tex
  in_block : (tex : List ℕ) → text ≡ codes "block\n" ++ tex → HoldsFormula text Each Block tex
  -- the first line does not say the style
  unsaid : ((tex : List ℕ) → text ≢ codes "inline\n" ++ tex)
      → ((tex : List ℕ) → text ≢ codes "block\n" ++ tex)
      → HoldsFormula text Each Inline text

-- P holds of the formula that a text holds, in the style in which it is read
abbrev pub OfFormula : (Table → List ℕ → Style → Type 0) → Table → List ℕ → Display → Type 0
OfFormula P macros text display =
    (style : DisplayStyle) × (tex : List ℕ) × HoldsFormula text display style tex × P macros tex (style_in style)

-- the markup of a formula, with an annotation or without
abbrev pub IsAnswerWith : Bool → Table → List ℕ → Style → List ℕ → Type 0
IsAnswerWith true = IsAnswerWithSource
IsAnswerWith false = IsAnswer

-- the markup of the formula that a text holds, in the format that is asked for
abbrev pub IsMarkup : Table → List ℕ → Format → List ℕ → Type 0
IsMarkup macros text format markup =
    OfFormula (λ m tex style. IsAnswerWith format.is_annotated m tex style markup) macros text format.display

-- why the formula that a text holds is refused
abbrev pub IsNoMarkup : Table → List ℕ → Format → Refusal → Type 0
IsNoMarkup macros text format refusal = OfFormula (λ m tex style. IsRefusal m tex style refusal) macros text format.display

-- the markup of the formula that a text holds, as a line
abbrev pub IsLine : Table → List ℕ → Format → List ℕ → Type 0
IsLine macros text format line = (markup : List ℕ) × IsMarkup macros text format markup × (line ≡ markup ++ codes "\n")

-- the reply to one of many formulas; a NUL ends it
pub data IsReply (macros : Table) (text : List ℕ) (format : Format) (reply : List ℕ) : Type 0 where
  answered : (markup : List ℕ)
      → IsMarkup macros text format markup
      → reply ≡ codes "mathml\n" ++ (markup ++ 0 ∷ [])
      → IsReply macros text format reply
  -- the error is out of memory, or reports why the formula is refused
  refused : (error : TexError)
      → IfSome (refusal_of error) (IsNoMarkup macros text format)
      → reply ≡ codes "error\n" ++ (error_text error ++ 0 ∷ [])
      → IsReply macros text format reply

-- the replies to formulas, in turn
pub data AreReplies (macros : Table) : List (List ℕ) → Format → List ℕ → Type 0 where
  no_reply : {format : Format} → AreReplies macros [] format []
  one_more : {tex : List ℕ} {texts : List (List ℕ)} {format : Format} {reply replies : List ℕ}
      → IsReply macros tex format reply
      → AreReplies macros texts format replies
      → AreReplies macros (tex ∷ texts) format (reply ++ replies)

-- the text holds no NUL
pub record IsWithoutNul (text : List ℕ) : Type 0 where
  pub none : (before after : List ℕ) → text ≢ before ++ 0 ∷ after

-- The formulas of an input: a NUL ends each of them. After the last one it may be missing.
pub data AreFormulas : List ℕ → List (List ℕ) → Type 0 where
  no_formula : AreFormulas [] []
  unended : {tex : List ℕ}
      → tex ≢ []
      → IsWithoutNul tex
      → AreFormulas tex (tex ∷ [])
  ended : {tex rest : List ℕ} {texts : List (List ℕ)}
      → IsWithoutNul tex
      → AreFormulas rest texts
      → AreFormulas (tex ++ 0 ∷ rest) (tex ∷ texts)
