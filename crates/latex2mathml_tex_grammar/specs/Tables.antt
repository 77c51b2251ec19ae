-- Tables: rows of cells. Here what was read last comes first.
use Rattle.std.specs.Prelude.{ℕ, ℤ, pos, List, [], ◌∷◌, reverse, Option, Some, None}
use Rattle.latex2mathml_elements.specs.Attributes.{plain, MathStyle}
use Rattle.latex2mathml_elements.specs.{Columns.Alignment, Columns.Continued, Columns.Columns, Columns.column_at, Columns.density_in, Extents.Extent, Struts.strut, Struts.with_strut, Tables.attributes_in, Tables.rows_in}
use Rattle.latex2mathml_elements.specs.Element.{Mrow, Element, Rows, container, table, children}
use Rattle.latex2mathml_tex_grammar.specs.{Atoms.Before, Atoms.After, Atoms.Plain, Atoms.atom, Makes.Core, Makes.core, Makes.math_style, Rows.Row, Rows.empty_row, Rows.lone, Rows.row_element}
use Rattle.latex2mathml_tex_grammar.specs.Heights.{Height, Tall, Taller, VeryTall}
use Rattle.latex2mathml_tex_grammar.specs.Fences.{fenced}
use Rattle.latex2mathml_tex_grammar.specs.Symbols.{Class, Ordinary, Opening, Inner, Style, InDisplay, InText}

-- What precedes the first atom of a cell: some cells continue something ordinary. Any other cell begins like a formula, as if after
-- an opening sign.
abbrev pub before_cell : Alignment → Before
before_cell Continued = After Ordinary
before_cell alignment = After Opening

-- the row of a cell that has this many cells before it, before its first atom
abbrev pub begun_cell : Columns → ℕ → Row
begun_cell columns k = record empty_row { before = before_cell (column_at columns k).alignment }

-- the elements of a cell; a sign that is all of it has no space
abbrev pub cell_of : Row → List Element
cell_of row = lone row.last row.elements

-- Rows: until a table is made of it, a row is an `mrow` of its cells; the lines of `RowLines` are among the rows

-- a row of this cell, which has the strut of the row, and of the cells before it, the last one first
abbrev pub row_of : Extent → Element → List Element → Element
row_of extent x cells = container Mrow plain (children (reverse (with_strut extent x ∷ cells)))

-- such a row of a table in these columns, with this space below it, in thousandths of an em
abbrev pub a_row : Columns → ℤ → Element → List Element → Element
a_row columns gap = row_of (strut (density_in columns) gap)

-- at least one row or line
pub record Lines : Type 0 where
  pub last : Element
  pub others : List Element

-- rows, then one of these cells and a last cell with these atoms; an empty last row counts only if it is the only one
abbrev pub with_last : Columns → List Element → List Element → List Element → Lines
with_last columns (row ∷ rows) [] [] = record { last = row; others = rows }
with_last columns rows cells cell = record { last = a_row columns (pos 0) (row_element cell) cells; others = rows }

-- the rows of a table: those before one, the last of them first, then this one, and those after it
abbrev pub rows_onto : Columns → List Element → Element → List Element → Rows
rows_onto columns [] x xs = rows_in columns x xs
rows_onto columns (y ∷ ys) x xs = rows_onto columns ys y (x ∷ xs)

-- the rows of a table in these columns
abbrev pub rows_of : Columns → Lines → Rows
rows_of columns lines = rows_onto columns lines.others lines.last []

-- Tables

-- the style that a table states, where its cells have the first one, and the second is around it. By itself, a table that is
-- not in a script has cells in text style.
abbrev pub said_style : Style → Style → Option MathStyle
said_style InText InDisplay = None
said_style InText InText = None
said_style style around = Some (math_style style)

-- how high a table of these rows and lines is: one row is mostly no higher than what is between other delimiters
abbrev pub height_of : List Element → Height
height_of (row ∷ []) = Tall
height_of (row ∷ other ∷ []) = Taller
height_of rows = VeryTall

-- an element of this height between delimiters, if there are any
abbrev pub between_any : Option (List ℕ × List ℕ) → Height → Element → Element
between_any None height x = x
between_any (Some delimiters) height x = fenced height delimiters.0 delimiters.1 x

-- the class of a table, which may be between delimiters
abbrev pub table_class : Option (List ℕ × List ℕ) → Class
table_class None = Ordinary
table_class (Some delimiters) = Inner

-- a table in these columns, whose cells have the first style, where the second is around it
abbrev pub a_table : Option (List ℕ × List ℕ) → Columns → Style → Style → Lines → Core
a_table delimiters columns style around lines =
    core (atom (Plain (table_class delimiters)) (height_of (lines.last ∷ lines.others))
    (between_any delimiters (height_of (lines.last ∷ lines.others)) (table (attributes_in columns (record plain { style = said_style style around })) (rows_of columns lines))))
