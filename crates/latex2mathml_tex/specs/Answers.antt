-- What a call answers. Here a text is its bytes.
use Rattle.std.specs.Prelude.{◌≡◌, List, ℕ}
use Rattle.std.specs.Str.{chars}
use Rattle.latex2mathml_tex_grammar.specs.{Formulas.IsReading, Formulas.row_print, Formulas.row_print_with_source, Macros.Table, Rows.Row, Symbols.Style, Symbols.InDisplay, Symbols.InText}
use Rattle.latex2mathml_tex_grammar.specs.Formulas as formula
use Rattle.latex2mathml_tex_grammar.specs.Refusal.{Refusal}
use Rattle.latex2mathml_tokens.specs.declared.DisplayStyle.{DisplayStyle}
use Rattle.latex2mathml_tokens.specs.declared.DisplayStyle.TheVariants as display

-- the style of a formula on a line of its own, and in a line of text
abbrev pub style_in : DisplayStyle → Style
style_in display.Block = InDisplay
style_in display.Inline = InText

-- the markup is that of the formula's reading, where these macros hold
abbrev pub IsAnswer : Table → List ℕ → Style → List ℕ → Type 0
IsAnswer macros tex style markup = (row : Row) × IsReading macros (chars tex) style row × (markup ≡ row_print style row)

-- the markup is that of the formula's reading, with the text of the formula as an annotation
abbrev pub IsAnswerWithSource : Table → List ℕ → Style → List ℕ → Type 0
IsAnswerWithSource macros tex style markup =
    (row : Row) × IsReading macros (chars tex) style row × (markup ≡ row_print_with_source style (chars tex) row)

-- this is why the formula is refused
abbrev pub IsRefusal : Table → List ℕ → Style → Refusal → Type 0
IsRefusal macros tex style r = formula.IsRefusal macros (chars tex) style r
