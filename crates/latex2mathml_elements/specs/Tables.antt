-- Tables that are made of other elements: a rectangle becomes a line between rows, and each other element a row.
use Rattle.std.specs.Prelude.{ℕ, zero, suc, ℤ, pos, Bool, true, false, not, ◌&&◌, List, [], ◌∷◌, if◌then◌else◌}
use Rattle.latex2mathml_elements.specs.Attributes.{Attributes}
use Rattle.latex2mathml_elements.specs.Columns.{Columns, are_lined, behind_row, column_at, in_last_row}
use Rattle.latex2mathml_elements.specs.Extents.{Extent}
use Rattle.latex2mathml_elements.specs.Element.{Mrow, Element, Elements, Rows, Cells, rectangle, container, none, more, one_row, more_rows, one_cell, more_cells}
use Rattle.latex2mathml_elements.specs.Print.{table_attributes}
use Rattle.latex2mathml_elements.specs.Lines.{Line, NoLine, OneLine, TwoLines, Dashes, is_drawn, row_lines}

-- a cell for this element and for each of these, after `k` other cells
abbrev pub cells_behind : ℕ → Columns → Element → Elements → Cells
cells_behind k columns x none = one_cell (column_at columns k) (more x none)
cells_behind k columns x (more y ys) = more_cells (column_at columns k) (more x none) (cells_behind (suc k) columns y ys)

-- the cells that an element becomes: one for each child of an `mrow`; any other element is alone in a cell
abbrev pub cells_in : Columns → Element → Cells
cells_in columns (container Mrow a (more x xs)) = cells_behind zero columns x xs
cells_in columns x = cells_behind zero columns x none

-- the line of a black rectangle of this height: one that has a height is two lines
abbrev pub black_line : ℤ → Line
black_line (pos zero) = OneLine
black_line height = TwoLines

-- the line that a rectangle among rows is: one that is not black is dashed
abbrev pub line_as : Bool → ℤ → Line
line_as true height = black_line height
line_as false height = Dashes

-- the rectangle that is this line among rows: it has no width, and a height if it is two lines
abbrev pub height_of : Line → ℤ
height_of TwoLines = pos 1
height_of line = pos 0

abbrev pub is_black : Line → Bool
is_black Dashes = false
is_black line = true

abbrev pub row_line : Line → Extent
row_line line = record { width = pos 0; height = height_of line; depth = pos 0; is_black = is_black line }

-- the line that an element among rows is, if it is one
abbrev pub line_of : Element → Line
line_of (rectangle e) = line_as e.is_black e.height
line_of x = NoLine

-- whether an element among rows is a line
abbrev pub is_line : Element → Bool
is_line x = is_drawn (line_of x)

-- the line that these elements are, if they are one
abbrev pub last_line : List Element → Line
last_line (x ∷ []) = line_of x
last_line xs = NoLine

-- whether these elements are one line
abbrev pub are_line : List Element → Bool
are_line xs = is_drawn (last_line xs)

-- The rows of this element and of these. A line is above the row that comes after it, or below the last row, if it comes after
-- that. If a line comes before this element, it is a row. A line alone is above an empty row.
abbrev pub rows_behind : Columns → Line → Element → List Element → Rows
rows_behind columns line x [] =
    if not (is_drawn line) && is_line x then one_row (row_lines (line_of x) NoLine) (one_cell (column_at columns zero) none)
    else one_row (row_lines line NoLine) (cells_in (in_last_row columns) x)
rows_behind columns line x (y ∷ ys) =
    if not (is_drawn line) && is_line x then rows_behind columns (line_of x) y ys
    else if are_line (y ∷ ys) then one_row (row_lines line (last_line (y ∷ ys))) (cells_in (in_last_row columns) x)
    else more_rows (row_lines line NoLine) (cells_in columns x) (rows_behind (behind_row columns) NoLine y ys)

-- the rows that this element and these become
abbrev pub rows_in : Columns → Element → List Element → Rows
rows_in columns = rows_behind columns NoLine

-- the attributes of a table in these columns
abbrev pub attributes_in : Columns → Attributes → Attributes
attributes_in columns = table_attributes (are_lined columns)
