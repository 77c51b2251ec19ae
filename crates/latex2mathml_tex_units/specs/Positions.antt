-- Places of a text as lines and columns. A text is its bytes here.
use Rattle.std.specs.Prelude.{ℕ, ◌+◌, List, take}
use Rattle.std.specs.{Fmt.is_char_start, List.after_last, List.count_by}
use Rattle.latex2mathml_tex_grammar.specs.Units.{is_line_feed}

-- the text before a place: all of it, if it ends before the place
abbrev pub before : ℕ → List ℕ → List ℕ
before place text = take place text

-- the text between the last line feed before a place and the place
abbrev pub line_before : ℕ → List ℕ → List ℕ
line_before place text = after_last is_line_feed (before place text)

-- the line of a place: one more than the line feeds before it
abbrev pub line_of : ℕ → List ℕ → ℕ
line_of place text = count_by is_line_feed (before place text) + 1

-- the column of a place: one more than the characters that begin in its line before it
abbrev pub column_of : ℕ → List ℕ → ℕ
column_of place text = count_by is_char_start (line_before place text) + 1
