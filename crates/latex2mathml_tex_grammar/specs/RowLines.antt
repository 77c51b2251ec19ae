-- The lines that are drawn between the rows of a table.
use Rattle.std.specs.Prelude.{ℕ, Bool, true, false, List, ◌∷◌, codes, if◌then◌else◌}
use Rattle.std.specs.Str.{bytes_eq}
use Rattle.latex2mathml_elements.specs.Element.{Element, rectangle}
use Rattle.latex2mathml_elements.specs.{Lines.Line, Lines.NoLine, Lines.OneLine, Lines.TwoLines, Lines.Dashes, Tables.row_line}
use Rattle.latex2mathml_tex_grammar.specs.{Next.follows, Next.past_space, Scanning.is_line}
use Rattle.latex2mathml_tex_grammar.specs.Units.{Piece, Command, Units, Next, End, Stop}

-- whether a unit is a command for a line
abbrev pub is_line_command : Piece → Bool
is_line_command (Command name) = is_line name
is_line_command piece = false

-- the line that the command of this name draws; several are drawn as two
abbrev pub line_named : List ℕ → Bool → Line
line_named name true = TwoLines
line_named name false = if bytes_eq name (codes "hdashline") then Dashes else OneLine

-- the line that a unit is a command for, where another may follow
abbrev pub line_of : Piece → Bool → Line
line_of (Command name) another = if is_line name then line_named name another else NoLine
line_of piece another = NoLine

-- the line that these units begin with, if they begin with one
abbrev pub line_at : Units → Line
line_at (Next u us) = line_of u.piece (follows is_line_command us)
line_at (End place) = NoLine
line_at (Stop refusal) = NoLine

-- the line that comes next
abbrev pub line_next : Units → Line
line_next l = line_at (past_space l)

-- rows, the last one first, and the line after them, if there is one; until a table is made of its rows, a line is a rectangle
abbrev pub lined : Line → List Element → List Element
lined NoLine rows = rows
lined line rows = rectangle (row_line line) ∷ rows
