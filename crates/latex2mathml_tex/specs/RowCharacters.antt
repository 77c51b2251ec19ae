-- Characters that are read within a row.
use Rattle.std.specs.Prelude.{◌≡◌, ◌==◌, ◌||◌, ℕ, Bool, true, false, List, not}
use Rattle.std.specs.Str.{byte}
use Rattle.latex2mathml_tex_grammar.specs.Rules as rules
use Rattle.latex2mathml_tex.specs.{Frames.ending_of, Innermost.IsInnermost}
use Rattle.latex2mathml_tex_commands.specs.declared.meaning.Style.{Style}
use Rattle.latex2mathml_tex_atoms.specs.declared.atoms.{Context.Context, Row.Row}
use Rattle.latex2mathml_tex.specs.declared.parse.endings.Ending.{Ending}
use Rattle.latex2mathml_tex.specs.declared.parse.frames.Frame.{Frame}
use Rattle.latex2mathml_tex.specs.declared.parse.frames.Frame.TheVariants as frame

-- whether what ends atoms is the sign of an arrow, which may be a letter
abbrev pub is_label : rules.Ending → Bool
is_label (rules.InLabel direction place) = true
is_label e = false

-- the innermost of these frames is a row, which is no label of an arrow, and whose atoms are read in this context
abbrev pub IsRowInnermost : Style → List Frame → Context → Type 0
IsRowInnermost s fs c = (e : Ending) × ((place : ℕ) × ((row : Row) × ((others : List Frame) × (IsInnermost s fs (frame.Row e place c row) others × ((at : ℕ) → is_label (ending_of e at) ≡ false)))))

-- whether the character ends some rows, or continues an atom
abbrev pub ends_or_marks : ℕ → Bool
ends_or_marks c = c == byte "&" || c == byte "_" || c == byte "^" || c == byte "'" || c == byte "]" || c == byte "$" || c == byte "@"

-- whether a character that is no letter and no digit is none of those that may be something else than a symbol in a row
abbrev pub is_symbol : ℕ → Bool
is_symbol c = not (c == byte "." || c == byte "~" || c == byte "&" || c == byte "#" || c == byte "$" || c == byte "_" || c == byte "^" || c == byte "'" || c == byte "]" || c == byte "@")
