-- Dots: in the middle of the line before an operator or a relation, as in `a + \dots + b`, otherwise on the line. Before a closing
-- delimiter, a semicolon or a point, a thin space follows them, as in amsmath.
use Rattle.std.specs.Prelude.{ℕ, ◌==◌, ◌||◌, ◌&&◌, Bool, true, false, Option, Some, None}
use Rattle.std.specs.Str.{byte}
use Rattle.latex2mathml_tex_grammar.specs.{Commands.meaning_of, Commands.symbol_of}
use Rattle.latex2mathml_tex_grammar.specs.Meaning.{Meaning, Shows, StackedRelation, Negation, Arrow, Implication, Classed, Sized, Right}
use Rattle.latex2mathml_tex_grammar.specs.Symbols.{Class, Ordinary, Binary, Relation, Closing, Inner, Symbol, Sign, BigOperator, Integral}
use Rattle.latex2mathml_tex_grammar.specs.Units.{Piece, Character, Command}

-- dots on the line
abbrev pub low_dots : Symbol
low_dots = Sign Inner 0x2026  -- …

-- dots in the middle of the line
abbrev pub centered_dots : Symbol
centered_dots = Sign Inner 0x22EF  -- ⋯

-- dots in a column
abbrev pub column_dots : Symbol
column_dots = Sign Ordinary 0x22EE  -- ⋮

-- whether dots before an atom of this class are in the middle of the line
abbrev pub class_centers : Class → Bool
class_centers Binary = true
class_centers Relation = true
class_centers class = false

-- whether dots before this character are in the middle of the line
abbrev pub symbol_centers : Symbol → Bool
symbol_centers (Sign class c) = class_centers class
symbol_centers (BigOperator c) = true
symbol_centers (Integral c) = true
symbol_centers symbol = false

-- whether dots before a command with this meaning are in the middle of the line
abbrev pub meaning_centers : Meaning → Bool
meaning_centers (Shows symbol) = symbol_centers symbol
meaning_centers StackedRelation = true
meaning_centers Negation = true
meaning_centers (Arrow c) = true
meaning_centers (Implication c) = true
meaning_centers (Classed class) = class_centers class
meaning_centers meaning = false

-- whether something was found for which this holds
abbrev pub is_found : {A : Type 0} → (A → Bool) → Option A → Bool
is_found holds (Some x) = holds x
is_found holds None = false

-- whether dots before this piece of a text are in the middle of the line
abbrev pub centers_dots : Piece → Bool
centers_dots (Character c) = is_found symbol_centers (symbol_of c)
centers_dots (Command name) = is_found meaning_centers (meaning_of name)
centers_dots piece = false

-- whether a thin space is between dots and this sign
abbrev pub symbol_closes : Symbol → Bool
symbol_closes (Sign Closing c) = true
symbol_closes symbol = false

-- whether a thin space is between dots and a command with this meaning
abbrev pub meaning_closes : Meaning → Bool
meaning_closes (Shows symbol) = symbol_closes symbol
meaning_closes (Sized size Closing) = true
meaning_closes Right = true
meaning_closes meaning = false

-- whether a thin space is between these dots and this piece of a text; before a comma only if they are in the middle of the line
abbrev pub closes_dots : ℕ → Piece → Bool
closes_dots dots (Character c) = c == byte ")" || c == byte "]" || c == byte ";" || c == byte "." || (c == byte "," && dots == 0x22EF)
closes_dots dots (Command name) = is_found meaning_closes (meaning_of name)
closes_dots dots piece = false
