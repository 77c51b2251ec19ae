-- The columns of the code, as values of the definitions.
use Rattle.std.specs.Prelude.{ℕ, zero, suc, ℤ, pos, negsuc, ◌<◌, ◌≤◌, ◌==◌, ◌%◌, ◌/◌, Bool, true, false, nat_lt, List, [], ◌∷◌, ◌++◌, codes, length, map, take, if◌then◌else◌}
use Rattle.latex2mathml_elements.specs.Columns as defined
use Rattle.latex2mathml_elements.specs.Lines as lines
use Rattle.latex2mathml_elements.specs.Print.{alignment_style, alignment_text}
use Rattle.latex2mathml_attributes.specs.Lines.{line_of}
use Rattle.latex2mathml_attributes.specs.declared.columns.TheConstants.{MOST_COLUMNS}
use Rattle.latex2mathml_attributes.specs.declared.columns.Alignment.{Alignment}
use Rattle.latex2mathml_attributes.specs.declared.columns.Alignment.TheVariants as alignment
use Rattle.latex2mathml_attributes.specs.declared.columns.Column.{Column}
use Rattle.latex2mathml_attributes.specs.declared.columns.Columns.{Columns}
use Rattle.latex2mathml_attributes.specs.declared.columns.Density.{Density}
use Rattle.latex2mathml_attributes.specs.declared.columns.Density.TheVariants as density
use Rattle.latex2mathml_attributes.specs.declared.listed.ListedColumn.{ListedColumn}
use Rattle.latex2mathml_attributes.specs.declared.listed.ListedColumn.TheVariants as listed
use Rattle.latex2mathml_attributes.specs.declared.columns.Kind.{Kind}
use Rattle.latex2mathml_attributes.specs.declared.columns.Kind.TheVariants as kind
use Rattle.latex2mathml_attributes.specs.declared.columns.Spacing.{Spacing}
use Rattle.latex2mathml_attributes.specs.declared.columns.Spacing.TheVariants as spacing

abbrev pub alignment_of : Alignment → defined.Alignment
alignment_of alignment.Centered = defined.Centered
alignment_of alignment.LeftAligned = defined.LeftAligned
alignment_of alignment.RightAligned = defined.RightAligned
alignment_of alignment.Continued = defined.Continued

abbrev pub density_of : Density → defined.Density
density_of density.Dense = defined.Dense
density_of density.Usual = defined.Usual
density_of density.Stretched = defined.Stretched
density_of density.Opened = defined.Opened

abbrev pub spacing_of : Spacing → defined.Spacing
spacing_of spacing.Unspaced = defined.Unspaced
spacing_of spacing.Before = defined.SpaceBefore
spacing_of spacing.Around = defined.SpaceAround

-- a listed column with this line after it
abbrev before_line : defined.Alignment → lines.Line → defined.Column
before_line alignment line = record (defined.unlined alignment) { after = line }

abbrev pub listed_of : ListedColumn → defined.Column
listed_of listed.Centered = defined.unlined defined.Centered
listed_of listed.CenteredBeforeLine = before_line defined.Centered lines.OneLine
listed_of listed.CenteredBeforeTwoLines = before_line defined.Centered lines.TwoLines
listed_of listed.CenteredBeforeDashes = before_line defined.Centered lines.Dashes
listed_of listed.LeftAligned = defined.unlined defined.LeftAligned
listed_of listed.LeftAlignedBeforeLine = before_line defined.LeftAligned lines.OneLine
listed_of listed.LeftAlignedBeforeTwoLines = before_line defined.LeftAligned lines.TwoLines
listed_of listed.LeftAlignedBeforeDashes = before_line defined.LeftAligned lines.Dashes
listed_of listed.RightAligned = defined.unlined defined.RightAligned
listed_of listed.RightAlignedBeforeLine = before_line defined.RightAligned lines.OneLine
listed_of listed.RightAlignedBeforeTwoLines = before_line defined.RightAligned lines.TwoLines
listed_of listed.RightAlignedBeforeDashes = before_line defined.RightAligned lines.Dashes

-- the column of a number
abbrev pub numbered : ℕ → defined.Column
numbered n =
    if n == 1 then listed_of listed.CenteredBeforeLine
    else if n == 2 then listed_of listed.CenteredBeforeTwoLines
    else if n == 3 then listed_of listed.CenteredBeforeDashes
    else if n == 4 then listed_of listed.LeftAligned
    else if n == 5 then listed_of listed.LeftAlignedBeforeLine
    else if n == 6 then listed_of listed.LeftAlignedBeforeTwoLines
    else if n == 7 then listed_of listed.LeftAlignedBeforeDashes
    else if n == 8 then listed_of listed.RightAligned
    else if n == 9 then listed_of listed.RightAlignedBeforeLine
    else if n == 10 then listed_of listed.RightAlignedBeforeTwoLines
    else if n == 11 then listed_of listed.RightAlignedBeforeDashes
    else listed_of listed.Centered

-- the columns of the two halves of a byte
abbrev pub earlier : ℕ → defined.Column
earlier byte = numbered (byte % 16)

abbrev pub later : ℕ → defined.Column
later byte = numbered (byte / 16)

-- the columns of an array: those of the lower halves of its bytes, and then those of the upper halves
abbrev pub columns_in : List ℕ → List defined.Column
columns_in bytes = map earlier bytes ++ map later bytes

-- a column with this line before it
abbrev pub behind_line : lines.Line → defined.Column → defined.Column
behind_line line c = record c { before = line }

abbrev pub column_of : Column → defined.Column
column_of c = record {
  density = density_of c.density;
  alignment = alignment_of c.alignment;
  spacing = spacing_of c.spacing;
  before = line_of c.before;
  after = line_of c.after;
}

-- the start tag of a cell of a column that is aligned like this, up to its space
abbrev pub cell_start : defined.Alignment → List ℕ
cell_start alignment = codes "<mtd" ++ (alignment_text alignment ++ (codes " style=\"" ++ alignment_style alignment))

-- only the first column has this line before it
abbrev pub line_before : lines.Line → ℕ → lines.Line
line_before line zero = line
line_before line (suc place) = lines.NoLine

-- columns of this kind; the line before the first and the list are those of listed columns
abbrev pub columns_with : Kind → lines.Line → List defined.Column → defined.Columns
columns_with (kind.Alike density alignment) line listed = defined.Alike (density_of density) (alignment_of alignment)
columns_with kind.InPairs line listed = defined.InPairs
columns_with kind.AroundRelation line listed = defined.AroundRelation
columns_with kind.InDiagram line listed = defined.InDiagram
columns_with kind.Broken line listed = defined.Broken
columns_with kind.BrokenAfterFirst line listed = defined.BrokenAfterFirst
columns_with kind.Listed line listed = defined.Listed line listed

abbrev pub columns_of : Columns → defined.Columns
columns_of c = columns_with c.kind (line_of c.before) (take c.len (columns_in c.listed))

-- whether columns are those of a diagram
abbrev pub are_in_diagram : defined.Columns → Bool
are_in_diagram defined.InDiagram = true
are_in_diagram columns = false

-- the columns are a list, and more can be listed
abbrev pub has_room : defined.Columns → Bool
has_room (defined.Listed line columns) = nat_lt (length columns) MOST_COLUMNS
has_room columns = false

-- one more column, if there is room
abbrev pub listed_behind : defined.Column → defined.Columns → defined.Columns
listed_behind column (defined.Listed line columns) = defined.Listed line (if nat_lt (length columns) MOST_COLUMNS then columns ++ column ∷ [] else columns)
listed_behind column columns = columns

-- a space that is small enough to be added to the depth of a row
abbrev pub IsSmall : ℤ → Type 0
IsSmall (pos n) = n ≤ 1638400
IsSmall (negsuc n) = n < 1638400
