-- What is still to be written of the elements of a builder. The work that was pushed last is done first.
use Rattle.std.specs.Prelude.{◌≡◌, ℕ, zero, suc, ◌+◌, ◌-◌, ◌≤◌, Bool, true, false, not, ◌&&◌, ◌||◌, List, [], ◌∷◌, ◌++◌, codes, drop, if◌then◌else◌, length, reverse, sum_by, take}
use Rattle.std.specs.List.{All, flat_map}
use Rattle.latex2mathml_elements.specs.Element.{Element, Elements, Rows, Cells, token, space, rectangle, container, pair, triple, table, none, more, one_row, more_rows, one_cell, more_cells, children, Mrow}
use Rattle.latex2mathml_elements.specs.Columns.{Columns, behind_row, column_at, in_last_row}
use Rattle.latex2mathml_elements.specs.Print.{cell_print, cells_print, prints, row_print}
use Rattle.latex2mathml_elements.specs.Lines.{Line, NoLine, is_drawn, row_lines}
use Rattle.latex2mathml_elements.specs.Tables.{are_line, cells_in, is_line, last_line, line_of}
use Rattle.latex2mathml_builder.specs.Built.{Built, settled_in}
use Rattle.latex2mathml_attributes.specs.Columns.{columns_of}
use Rattle.latex2mathml_builder.specs.declared.works.Run.{Run}
use Rattle.latex2mathml_builder.specs.declared.works.Work.{Work}
use Rattle.latex2mathml_builder.specs.declared.works.Work.TheVariants as work

-- the `count` settled elements from `first` on
abbrev pub settled_from : Built → ℕ → ℕ → List Element
settled_from b first count = take count (drop first (settled_in b))

-- cells with these elements, after `k` others
abbrev pub cell_prints : Columns → ℕ → List Element → List ℕ
cell_prints columns k [] = []
cell_prints columns k (x ∷ xs) = cell_print (column_at columns k) (prints (more x none)) ++ cell_prints columns (suc k) xs

-- the line that the first of these elements is, if it is one
abbrev pub first_line : List Element → Line
first_line [] = NoLine
first_line (x ∷ xs) = line_of x

-- whether one of these elements is a line
abbrev pub has_line : List Element → Bool
has_line [] = false
has_line (x ∷ xs) = is_line x || has_line xs

-- whether a row before these elements is the last one: only a line may be below it
abbrev pub is_last : List Element → Bool
is_last [] = true
is_last xs = are_line xs

-- the columns of a row before these elements
abbrev pub columns_before : List Element → Columns → Columns
columns_before xs columns = if is_last xs then in_last_row columns else columns

-- the rows that these elements become, where a line may come before them
abbrev pub row_prints : Columns → Line → List Element → List ℕ
row_prints columns line [] = if is_drawn line then row_print (row_lines line NoLine) (cell_print (column_at columns zero) []) else []
row_prints columns line (x ∷ xs) =
    if not (is_drawn line) && is_line x then row_prints columns (line_of x) xs
    else row_print (row_lines line (last_line xs)) (cells_print (cells_in (columns_before xs columns) x)) ++ (if are_line xs then [] else row_prints (behind_row columns) NoLine xs)

-- the elements of a run
abbrev pub elements_of : Built → Run → List Element
elements_of b run = settled_from b run.next (run.end - run.next)

abbrev pub run_print : Built → Run → List ℕ
run_print b run = prints (children (elements_of b run)) ++ run.tag.now

abbrev pub work_print : Built → Work → List ℕ
work_print b (work.Elements run) = run_print b run
work_print b (work.Rows columns first count) = row_prints (columns_of columns) NoLine (settled_from b first count) ++ codes "</mtable>"
work_print b (work.Cells columns start first count) = cell_prints (columns_of columns) (first - start) (settled_from b first count) ++ codes "</mtr>"

abbrev pub due : Built → List Work → List ℕ
due b ws = flat_map (work_print b) (reverse ws)

-- the elements of a work are settled
abbrev pub IsIn : Built → Work → Type 0
IsIn b (work.Elements run) = run.end ≤ length b.settled
IsIn b (work.Rows columns first count) = first + count ≤ length b.settled
IsIn b (work.Cells columns start first count) = (start ≤ first) × (first + count ≤ length b.settled)

unfoldable pub AreIn : Built → List Work → Type 0
AreIn b = All (IsIn b)

-- the elements in the cells of the row that the first of these elements becomes
abbrev pub listed : Elements → List Element
listed none = []
listed (more x xs) = x ∷ listed xs

abbrev pub in_cells : List Element → List Element
in_cells [] = []
in_cells (container Mrow a (more x xs) ∷ ys) = x ∷ listed xs
in_cells (x ∷ ys) = x ∷ []

-- three elements as they are written, of which the last two may be exchanged
abbrev pub arranged : Bool → List Element → List Element
arranged true (x ∷ y ∷ z ∷ xs) = x ∷ z ∷ y ∷ xs
arranged is_exchanged xs = xs

-- how much there is to write of an element
abbrev mutual
  pub weight : Element → ℕ
  weight (token t a text) = 1
  weight (space width) = 2
  weight (rectangle e) = 2
  weight (container c a xs) = 3 + weights xs
  weight (pair p a x y) = 3 + (weight x + weight y)
  weight (triple t a x y z) = 5 + (weight x + (weight y + weight z))
  weight (table a rows) = 4 + row_weights rows

  pub weights : Elements → ℕ
  weights none = 0
  weights (more x xs) = weight x + weights xs

  pub row_weights : Rows → ℕ
  row_weights (one_row lines cells) = 3 + cell_weights cells
  row_weights (more_rows lines cells rows) = 3 + (cell_weights cells + row_weights rows)

  pub cell_weights : Cells → ℕ
  cell_weights (one_cell column xs) = 3 + weights xs
  cell_weights (more_cells column xs cells) = 3 + (weights xs + cell_weights cells)

-- how much there is to write of the cells with these elements, and of the rows that elements become
abbrev pub cell_loads : List Element → ℕ
cell_loads [] = 0
cell_loads (x ∷ xs) = 3 + (weights (more x none) + cell_loads xs)

abbrev pub row_loads : Columns → Line → List Element → ℕ
row_loads columns line [] = if is_drawn line then 6 else 0
row_loads columns line (x ∷ xs) =
    if not (is_drawn line) && is_line x then row_loads columns (line_of x) xs
    else 3 + (cell_weights (cells_in (columns_before xs columns) x) + (if are_line xs then 0 else row_loads (behind_row columns) NoLine xs))

-- how much there is to write of a work, and of all works
abbrev pub run_weight : Built → Run → ℕ
run_weight b run = weights (children (elements_of b run))

abbrev pub work_weight : Built → Work → ℕ
work_weight b (work.Elements run) = 1 + run_weight b run
work_weight b (work.Rows columns first count) = 1 + row_loads (columns_of columns) NoLine (settled_from b first count)
work_weight b (work.Cells columns start first count) = 1 + cell_loads (settled_from b first count)

abbrev pub load : Built → List Work → ℕ
load b = sum_by (work_weight b)

-- A step from an old text and what was due to a new text and what is due: the new text followed by what is due equals the
-- old text followed by this markup and what was due.
abbrev pub Writes : Built → List ℕ → List Work → List ℕ → List ℕ → List Work → Type 0
Writes b old ws markup new vs = new ++ due b vs ≡ old ++ (markup ++ due b ws)

-- The same, if what follows is this run and what is due.
abbrev pub Begins : Built → List ℕ → List Work → List ℕ → List ℕ → Run → List Work → Type 0
Begins b old ws markup new run vs = new ++ (run_print b run ++ due b vs) ≡ old ++ (markup ++ due b ws)
