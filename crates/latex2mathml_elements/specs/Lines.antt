-- The lines of a table, next to its columns and between its rows.
use Rattle.std.specs.Prelude.{Bool, true, false, ◌||◌}

-- what is drawn between two columns or two rows
pub data Line : Type 0 where
  NoLine : Line
  OneLine : Line
  TwoLines : Line
  Dashes : Line

-- whether anything is drawn
abbrev pub is_drawn : Line → Bool
is_drawn NoLine = false
is_drawn line = true

-- the lines above and below a row
pub record RowLines : Type 0 where
  pub above : Line
  pub below : Line

abbrev pub row_lines : Line → Line → RowLines
row_lines above below = record { above = above; below = below }

-- whether a row has a line
abbrev pub is_lined : RowLines → Bool
is_lined lines = is_drawn lines.above || is_drawn lines.below
