-- The tables that the parser reads, as the definitions have them.
use Rattle.std.specs.Prelude.{◌≡◌, ℕ, List, ◌∷◌, drop, None, take}
use Rattle.std.specs.Str.{bytes_eq}
use Rattle.latex2mathml_elements.specs.Columns.{Alike, Centered, Columns as DefinedColumns, Dense, InDiagram}
use Rattle.latex2mathml_attributes.specs.Columns.{columns_of}
use Rattle.latex2mathml_tex_grammar.specs.{Next.past_space, Reading.ReadsBehindCell, Reading.ReadsRows, Rows.Row, Tables.Lines, Tables.a_table, Tables.cell_of}
use Rattle.latex2mathml_tex_grammar.specs.Makes.{Core}
use Rattle.latex2mathml_tex_grammar.specs.Reading.{Outcome, Read, Refused}
use Rattle.latex2mathml_elements.specs.{Element.Element, Lines.Line, Lines.NoLine}
use Rattle.latex2mathml_tex_grammar.specs.Rules.{Context, TableEnd, ByName, OfDiagram, ByBrace, ByText, Rule, gives, styled, takes_found, ended_table}
use Rattle.latex2mathml_tex_grammar.specs.Scanning.{BeforeArgument, Name}
use Rattle.latex2mathml_tex_grammar.specs.Starts as starts
use Rattle.latex2mathml_tex_grammar.specs.Symbols as symbols
use Rattle.latex2mathml_tex_grammar.specs.Units.{Unit, Units, Next, End}
use Rattle.latex2mathml_tex_units.specs.{Environments.environment_of, declared.environments.Environment.Environment}
use Rattle.latex2mathml_tex_commands.specs.Meanings.{style_of}
use Rattle.latex2mathml_tex.specs.Levels.{RuleLeads}
use Rattle.latex2mathml_tex.specs.declared.parse.endings.{Diagram.Diagram, Table.Table, TableKind.TableKind}
use Rattle.latex2mathml_tex.specs.declared.parse.endings.TableKind.TheVariants as kind
use Rattle.latex2mathml_tex.specs.declared.parse.tables.CellEnd.{CellEnd}
use Rattle.latex2mathml_tex.specs.declared.parse.tables.CellEnd.TheVariants as cell_end

abbrev pub cell_end_of : CellEnd → starts.CellEnd
cell_end_of cell_end.PartsCells = starts.PartsCells
cell_end_of cell_end.BeginsArrow = starts.BeginsArrow
cell_end_of cell_end.EndsRow = starts.EndsRow
cell_end_of cell_end.EndsTable = starts.EndsTable

-- how a table ends
abbrev pub ended_by : TableKind → TableEnd
ended_by (kind.Environment e columns) = ByName
ended_by (kind.Diagram e) = OfDiagram
ended_by kind.Braces = ByBrace
ended_by (kind.Text columns) = ByText

-- its columns
abbrev pub columns_in : TableKind → DefinedColumns
columns_in (kind.Environment e columns) = columns_of columns
columns_in (kind.Diagram e) = InDiagram
columns_in kind.Braces = Alike Dense Centered
columns_in (kind.Text columns) = columns_of columns

abbrev pub table_end : Table → TableEnd
table_end t = ended_by t.kind

-- a diagram as a table
abbrev pub table_of : Diagram → Table
table_of d = record { kind = kind.Diagram d.environment; rows = d.rows; cells = d.cells }

-- the style of its cells
abbrev pub style_in : TableKind → symbols.Style
style_in (kind.Environment e columns) = style_of e.now.style
style_in (kind.Diagram e) = style_of e.now.style
style_in kind.Braces = symbols.InScript
style_in (kind.Text columns) = symbols.InDisplay

abbrev pub cell_context : Table → Context → Context
cell_context t around = styled around (style_in t.kind)

-- what follows the rows of an environment, if it is in this context
abbrev pub behind_environment : Environment → DefinedColumns → Context → Lines → ℕ → Rule
behind_environment e columns around lines at =
    takes_found (BeforeArgument Name) at (λ other. ended_table at around (environment_of e) columns lines (bytes_eq other e.name.now))

-- what follows the rows of a table, if the table is in this context
abbrev pub after_rows : TableKind → Context → Lines → ℕ → Rule
after_rows kind.Braces around lines at = gives (a_table None (Alike Dense Centered) symbols.InScript around.style lines)
after_rows (kind.Text columns) around lines at = gives (a_table None (columns_of columns) symbols.InDisplay around.style lines)
after_rows (kind.Environment e columns) around lines at = behind_environment e.now (columns_of columns) around lines at
after_rows (kind.Diagram e) around lines at = behind_environment e.now InDiagram around lines at

abbrev pub behind_rows : Table → Context → Lines → ℕ → Rule
behind_rows t around = after_rows t.kind around

-- where rows lead, to what follows them: what ends them comes next, a unit or the end of the text
pub record LinesLead (then : Lines → ℕ → Rule) (K : Outcome Core → Type 0) (lines : Lines) (m : Units) : Type 0 where
  pub at_unit : (u : Unit) (n : Units) → past_space m ≡ Next u n → RuleLeads (then lines u.place) K n
  pub at_end : (at : ℕ) → past_space m ≡ End at → RuleLeads (then lines at) K (End at)

-- where the outcome of rows leads
abbrev pub RowsLead : (Lines → ℕ → Rule) → (Outcome Core → Type 0) → Outcome Lines → Type 0
RowsLead then K (Read lines m) = LinesLead then K lines m
RowsLead then K (Refused r) = K (Refused r)

-- where the outcome of a cell leads, after these rows and these cells
abbrev pub CellMade : TableEnd → ℕ → DefinedColumns → Context → List Element → List Element → (Outcome Lines → Type 0) → Outcome Row → Type 0
CellMade end place columns c rows cells K (Read row m) = (o : Outcome Lines) → ReadsBehindCell end place columns c rows cells (cell_of row) m o → K o
CellMade end place columns c rows cells K (Refused r) = K (Refused r)

-- how many elements a line before a row is, where there may be one
abbrev pub line_count : Line → ℕ
line_count NoLine = 0
line_count line = 1

-- the rows of a table, with the lines among them, and the cells of the next row, whose elements are the first of these
abbrev pub cells_of : Table → List Element → List Element
cells_of t xs = take t.cells xs

abbrev pub rows_of : Table → List Element → List Element
rows_of t xs = take t.rows (drop t.cells xs)

-- where the outcome of the next cell leads, if the table is in this context
abbrev pub TableMade : Table → ℕ → List Element → Context → (Outcome Core → Type 0) → Outcome Row → Type 0
TableMade t place xs around K =
    CellMade (table_end t) place (columns_in t.kind) (cell_context t around) (rows_of t xs) (cells_of t xs) (RowsLead (behind_rows t around) K)

-- where the outcome of an arrow leads, which is the next cell of a table after these rows and these cells
abbrev pub ArrowMade : Table → ℕ → List Element → List Element → Context → (Outcome Core → Type 0) → Outcome Core → Type 0
ArrowMade t place rows cells around K (Read x m) =
    (o : Outcome Lines) → ReadsRows (table_end t) place (columns_in t.kind) (cell_context t around) rows (x.atom.element ∷ cells) m o → RowsLead (behind_rows t around) K o
ArrowMade t place rows cells around K (Refused r) = K (Refused r)
