-- The columns of a table.
use Rattle.std.specs.Prelude.{ℕ, zero, suc, Bool, false, ◌||◌, List, [], ◌∷◌}
use Rattle.latex2mathml_elements.specs.Lines.{Line, NoLine, is_drawn}

-- how the cells of a column are aligned
pub data Alignment : Type 0 where
  Centered : Alignment
  LeftAligned : Alignment
  RightAligned : Alignment
  -- aligned left, where cells continue something ordinary, such as the other cell of a pair, or the line before them
  Continued : Alignment

-- where space is left at the sides of a column
pub data Spacing : Type 0 where
  Unspaced : Spacing
  SpaceBefore : Spacing
  SpaceAround : Spacing

-- how far apart the rows of a table are, and what is in them
pub data Density : Type 0 where
  -- as in `smallmatrix` of TeX
  Dense : Density
  -- as in `array`
  Usual : Density
  -- as in `cases`, whose rows are a fifth farther apart
  Stretched : Density
  -- as in `aligned`, whose rows are as far apart as formulas in lines of their own
  Opened : Density

-- a column, with the lines at its left and at its right
pub record Column : Type 0 where
  pub density : Density
  pub alignment : Alignment
  pub spacing : Spacing
  pub before : Line
  pub after : Line

-- a column without lines, and with this space
abbrev pub spaced : Density → Spacing → Alignment → Column
spaced density spacing alignment = record { density = density; alignment = alignment; spacing = spacing; before = NoLine; after = NoLine }

-- a listed column without lines
abbrev pub unlined : Alignment → Column
unlined alignment = spaced Usual SpaceAround alignment

-- all columns of a table, however many there are
pub data Columns : Type 0 where
  -- all are like this, without lines, and with space between them
  Alike : Density → Alignment → Columns
  -- pairs, with space between them
  InPairs : Columns
  -- the left side of a relation, the relation, and its right side, followed by centered ones
  AroundRelation : Columns
  -- the objects of a diagram, with space around each, and between two of them their arrow
  InDiagram : Columns
  -- the lines of a formula that is broken: the first is at the left, the last at the right, and those between them in the middle
  Broken : Columns
  -- such lines without the first one
  BrokenAfterFirst : Columns
  -- these, with this line before the first, followed by centered ones
  Listed : Line → List Column → Columns

-- space between columns is before each but the first: so all cells of a column have the same
abbrev pub between : ℕ → Spacing
between zero = Unspaced
between (suc k) = SpaceBefore

-- the column that follows the given number of others
abbrev pub column_at : Columns → ℕ → Column
column_at (Alike density alignment) k = spaced density (between k) alignment
column_at InPairs zero = spaced Opened Unspaced RightAligned
column_at InPairs (suc zero) = spaced Opened Unspaced Continued
column_at InPairs (suc (suc zero)) = spaced Opened SpaceBefore RightAligned
column_at InPairs (suc (suc (suc k))) = column_at InPairs (suc k)
column_at AroundRelation zero = spaced Opened SpaceAround RightAligned
column_at AroundRelation (suc zero) = spaced Opened SpaceAround Centered
column_at AroundRelation (suc (suc zero)) = spaced Opened SpaceAround LeftAligned
column_at AroundRelation (suc (suc (suc k))) = spaced Opened SpaceAround Centered
column_at InDiagram zero = spaced Opened SpaceAround Centered
column_at InDiagram (suc zero) = spaced Opened Unspaced Centered
column_at InDiagram (suc (suc k)) = column_at InDiagram k
column_at Broken k = spaced Opened (between k) Continued
column_at BrokenAfterFirst k = spaced Opened (between k) Centered
column_at (Listed line []) k = unlined Centered
column_at (Listed line (column ∷ columns)) zero = record column { before = line }
column_at (Listed line (column ∷ columns)) (suc k) = column_at (Listed NoLine columns) k

-- the columns of the rows that follow one in these columns
abbrev pub behind_row : Columns → Columns
behind_row Broken = BrokenAfterFirst
behind_row columns = columns

-- the columns of the last row of a table
abbrev pub in_last_row : Columns → Columns
in_last_row BrokenAfterFirst = Alike Opened RightAligned
in_last_row columns = columns

-- how far apart the rows of a table in these columns are
abbrev pub density_in : Columns → Density
density_in (Alike density alignment) = density
density_in InPairs = Opened
density_in AroundRelation = Opened
density_in InDiagram = Opened
density_in Broken = Opened
density_in BrokenAfterFirst = Opened
density_in (Listed line columns) = Usual

-- whether one of these columns has a line after it
abbrev pub any_lined : List Column → Bool
any_lined [] = false
any_lined (column ∷ columns) = is_drawn column.after || any_lined columns

-- whether lines are drawn next to columns
abbrev pub are_lined : Columns → Bool
are_lined (Listed line columns) = is_drawn line || any_lined columns
are_lined columns = false
