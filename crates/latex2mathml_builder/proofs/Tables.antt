-- How the rows and the cells of a table are written, and how much there is to write.
use Rattle.std.proofs.Common.{codes, ◌≡◌, ℕ, zero, suc, ◌+◌, ◌-◌, ◌<◌, ◌≤◌, Bool, true, false, not, ◌&&◌, ◌||◌, nat_eq, if◌then◌else◌, List, [], ◌∷◌, ◌++◌, length, append_assoc, append-nil, length-drop, drop, take, refl, sym, ap, ◌∙◌, arith}
use Rattle.latex2mathml_elements.specs.Columns.{Columns, are_lined, behind_row, column_at, in_last_row}
use Rattle.latex2mathml_elements.specs.Attributes.{Attributes}
use Rattle.latex2mathml_elements.specs.Element.{Mrow, Msqrt, Mstyle, Mpadded, Mphantom, Element, Elements, Rows, Cells, token, space, rectangle, container, pair, triple, table, none, more, one_row, more_rows, one_cell, children}
use Rattle.latex2mathml_elements.specs.Print.{cell_print, cell_tag, cells_print, end_tag, have_line, print, prints, row_print, rows_print, start_tag, table_attributes}
use Rattle.latex2mathml_elements.specs.Lines.{Line, NoLine, OneLine, TwoLines, Dashes, RowLines, is_drawn, row_lines}
use Rattle.latex2mathml_elements.specs.Tables.{are_line, attributes_in, cells_behind, cells_in, is_line, last_line, line_of, rows_behind}
use Rattle.latex2mathml_builder.specs.Due.{cell_loads, cell_prints, cell_weights, columns_before, first_line, has_line, in_cells, is_last, listed, row_loads, row_prints, row_weights, weight, weights}
use Rattle.latex2mathml_builder.specs.Stacks.{table_with}
use Rattle.latex2mathml_builder.proofs.Written.{first_taken}

pub listed_children : (xs : List Element) → listed (children xs) ≡ xs
listed_children [] = refl
listed_children (x ∷ xs) = ap (λ l. x ∷ l) (listed_children xs)

-- an `mrow` with children becomes the cells of a row
pub in_row : (a : Attributes) (xs ys : List Element) → 0 < length xs → in_cells (container Mrow a (children xs) ∷ ys) ≡ xs
in_row a [] ys h = absurd (omega arith)
in_row a (x ∷ xs) ys h = ap (λ l. x ∷ l) (listed_children xs)

-- Cells

cells_written : (k : ℕ) (columns : Columns) (x : Element) (xs : Elements) → cells_print (cells_behind k columns x xs) ≡ cell_prints columns k (x ∷ listed xs)
cells_written k columns x none = sym (append-nil (cell_print (column_at columns k) (prints (more x none))))
cells_written k columns x (more y ys) =
    ap (λ l. cell_print (column_at columns k) (prints (more x none)) ++ l) (cells_written (suc k) columns y ys)

cells_loaded : (k : ℕ) (columns : Columns) (x : Element) (xs : Elements) → cell_weights (cells_behind k columns x xs) ≡ cell_loads (x ∷ listed xs)
cells_loaded k columns x none = omega arith
cells_loaded k columns x (more y ys) = omega (arith, cells_loaded (suc k) columns y ys)

-- the first cell, and those after it
cell_first : (columns : Columns) (k : ℕ) (x : Element) (xs : List Element) → cell_prints columns k (x ∷ xs) ≡ cell_prints columns k (x ∷ []) ++ cell_prints columns (suc k) xs
cell_first columns k x xs =
    ap (λ l. l ++ cell_prints columns (suc k) xs) (sym (append-nil (cell_print (column_at columns k) (prints (more x none)))))

pub one_cell_written : (columns : Columns) (k : ℕ) (xs : List Element) → 0 < length xs → cell_prints columns k (take 1 xs) ≡ cell_tag (column_at columns k) ++ (prints (children (take 1 xs)) ++ codes "</mtd>")
one_cell_written columns k [] h = absurd (omega arith)
one_cell_written columns k (x ∷ xs) h = append-nil (cell_print (column_at columns k) (prints (more x none)))

pub one_cell_loaded : (xs : List Element) → 0 < length xs → cell_loads (take 1 xs) ≡ 3 + weights (children (take 1 xs))
one_cell_loaded [] h = absurd (omega arith)
one_cell_loaded (x ∷ xs) h = omega arith

-- Rows

row_written : (columns : Columns) (x : Element) (ys : List Element) → cells_print (cells_in columns x) ≡ cell_prints columns zero (in_cells (x ∷ ys))
row_written columns (container Mrow a (more x xs)) ys = cells_written zero columns x xs
row_written columns (container Mrow a none) ys = cells_written zero columns (container Mrow a none) none
row_written columns (container Msqrt a xs) ys = cells_written zero columns (container Msqrt a xs) none
row_written columns (container Mstyle a xs) ys = cells_written zero columns (container Mstyle a xs) none
row_written columns (container Mpadded a xs) ys = cells_written zero columns (container Mpadded a xs) none
row_written columns (container Mphantom a xs) ys = cells_written zero columns (container Mphantom a xs) none
row_written columns (token t a text) ys = cells_written zero columns (token t a text) none
row_written columns (space width) ys = cells_written zero columns (space width) none
row_written columns (rectangle e) ys = cells_written zero columns (rectangle e) none
row_written columns (pair p a x y) ys = cells_written zero columns (pair p a x y) none
row_written columns (triple t a x y z) ys = cells_written zero columns (triple t a x y z) none
row_written columns (table a rows) ys = cells_written zero columns (table a rows) none

row_loaded : (columns : Columns) (x : Element) (ys : List Element) → cell_weights (cells_in columns x) ≡ cell_loads (in_cells (x ∷ ys))
row_loaded columns (container Mrow a (more x xs)) ys = cells_loaded zero columns x xs
row_loaded columns (container Mrow a none) ys = cells_loaded zero columns (container Mrow a none) none
row_loaded columns (container Msqrt a xs) ys = cells_loaded zero columns (container Msqrt a xs) none
row_loaded columns (container Mstyle a xs) ys = cells_loaded zero columns (container Mstyle a xs) none
row_loaded columns (container Mpadded a xs) ys = cells_loaded zero columns (container Mpadded a xs) none
row_loaded columns (container Mphantom a xs) ys = cells_loaded zero columns (container Mphantom a xs) none
row_loaded columns (token t a text) ys = cells_loaded zero columns (token t a text) none
row_loaded columns (space width) ys = cells_loaded zero columns (space width) none
row_loaded columns (rectangle e) ys = cells_loaded zero columns (rectangle e) none
row_loaded columns (pair p a x y) ys = cells_loaded zero columns (pair p a x y) none
row_loaded columns (triple t a x y z) ys = cells_loaded zero columns (triple t a x y z) none
row_loaded columns (table a rows) ys = cells_loaded zero columns (table a rows) none

-- a row, and what comes after it
row_first : (columns : Columns) (line : Line) (x : Element) (xs : List Element) → (not (is_drawn line) && is_line x) ≡ false → row_prints columns line (x ∷ xs) ≡ row_print (row_lines line (last_line xs)) (cells_print (cells_in (columns_before xs columns) x)) ++ (if are_line xs then [] else row_prints (behind_row columns) NoLine xs)
row_first columns line x xs h =
    ap (λ b. if b then row_prints columns (line_of x) xs else row_print (row_lines line (last_line xs)) (cells_print (cells_in (columns_before xs columns) x)) ++ (if are_line xs then [] else row_prints (behind_row columns) NoLine xs)) h

row_load_first : (columns : Columns) (line : Line) (x : Element) (xs : List Element) → (not (is_drawn line) && is_line x) ≡ false → row_loads columns line (x ∷ xs) ≡ 3 + (cell_weights (cells_in (columns_before xs columns) x) + (if are_line xs then 0 else row_loads (behind_row columns) NoLine xs))
row_load_first columns line x xs h =
    ap (λ b. if b then row_loads columns (line_of x) xs else 3 + (cell_weights (cells_in (columns_before xs columns) x) + (if are_line xs then 0 else row_loads (behind_row columns) NoLine xs))) h

-- nothing comes after the last row
rest_written : (columns : Columns) (b : Bool) (n : ℕ) (xs : List Element) → (if b then [] else row_prints columns NoLine (take n xs)) ≡ row_prints columns NoLine (take (if b then 0 else n) xs)
rest_written columns true n xs = refl
rest_written columns false n xs = refl

rest_loaded : (columns : Columns) (b : Bool) (n : ℕ) (xs : List Element) → (if b then 0 else row_loads columns NoLine (take n xs)) ≡ row_loads columns NoLine (take (if b then 0 else n) xs)
rest_loaded columns true n xs = refl
rest_loaded columns false n xs = refl

-- more than one element, or none, are not one line
pub not_one_line : (n : ℕ) (xs : List Element) → n ≤ length xs → nat_eq n 1 ≡ false → last_line (take n xs) ≡ NoLine
not_one_line zero xs h other = refl
not_one_line (suc zero) xs h other = absurd (cc other)
not_one_line (suc (suc n)) [] h other = absurd (omega arith)
not_one_line (suc (suc n)) (x ∷ []) h other = absurd (omega arith)
not_one_line (suc (suc n)) (x ∷ y ∷ xs) h other = refl

-- Tables

last_written : (columns : Columns) (line l : Line) (b : Bool) (x : Element) → (b ≡ true → is_drawn l ≡ true) → rows_print (if b then one_row (row_lines l NoLine) (one_cell (column_at columns zero) none) else one_row (row_lines line NoLine) (cells_in (in_last_row columns) x)) ≡ (if b then row_prints columns l [] else row_print (row_lines line NoLine) (cells_print (cells_in (in_last_row columns) x)) ++ [])
last_written columns line l true x drawn =
    sym (ap (λ b. if b then row_print (row_lines l NoLine) (cell_print (column_at columns zero) []) else []) (drawn refl))
last_written columns line l false x drawn = sym (append-nil (row_print (row_lines line NoLine) (cells_print (cells_in (in_last_row columns) x))))

more_written : (b c : Bool) (under : Rows) (lines others : RowLines) (last here : Columns) (x : Element) (rows : Rows) (next rest : List ℕ) (is : RowLines) → rows_print under ≡ next → rows_print rows ≡ rest → is ≡ (if c then lines else others) → rows_print (if b then under else if c then one_row lines (cells_in last x) else more_rows others (cells_in here x) rows) ≡ (if b then next else row_print is (cells_print (cells_in (if c then last else here) x)) ++ (if c then [] else rest))
more_written true c under lines others last here x rows next rest is e f g = e
more_written false true under lines others last here x rows next rest is e f g =
    ap (λ l. row_print l (cells_print (cells_in last x))) (sym g) ∙ sym (append-nil (row_print is (cells_print (cells_in last x))))
more_written false false under lines others last here x rows next rest is e f g =
    ap (λ l. row_print l (cells_print (cells_in here x)) ++ rows_print rows) (sym g) ∙ ap (λ l. row_print is (cells_print (cells_in here x)) ++ l) f

lines_are : (line below : Line) → row_lines line below ≡ (if is_drawn below then row_lines line below else row_lines line NoLine)
lines_are line NoLine = refl
lines_are line OneLine = refl
lines_are line TwoLines = refl
lines_are line Dashes = refl

-- a line that comes before a row is drawn
line_drawn : (b c : Bool) → (not b && c) ≡ true → c ≡ true
line_drawn true c h = cc
line_drawn false c h = h

rows_written : (columns : Columns) (line : Line) (x : Element) (xs : List Element) → rows_print (rows_behind columns line x xs) ≡ row_prints columns line (x ∷ xs)
rows_written columns line x [] = last_written columns line (line_of x) (not (is_drawn line) && is_line x) x (line_drawn (is_drawn line) (is_line x))
rows_written columns line x (y ∷ ys) =
    more_written (not (is_drawn line) && is_line x) (are_line (y ∷ ys)) _ _ _ (in_last_row columns) columns x _ _ _ _ (rows_written columns (line_of x) y ys) (rows_written (behind_row columns) NoLine y ys) (lines_are line (last_line (y ∷ ys)))

last_loaded : (columns : Columns) (line l : Line) (b : Bool) (x : Element) → (b ≡ true → is_drawn l ≡ true) → row_weights (if b then one_row (row_lines l NoLine) (one_cell (column_at columns zero) none) else one_row (row_lines line NoLine) (cells_in (in_last_row columns) x)) ≡ (if b then row_loads columns l [] else 3 + (cell_weights (cells_in (in_last_row columns) x) + 0))
last_loaded columns line l true x drawn = sym (ap (λ (b : Bool). if b then 6 else 0) (drawn refl))
last_loaded columns line l false x drawn = omega arith

more_loaded : (b c : Bool) (under : Rows) (lines others : RowLines) (last here : Columns) (x : Element) (rows : Rows) (next rest : ℕ) → row_weights under ≡ next → row_weights rows ≡ rest → row_weights (if b then under else if c then one_row lines (cells_in last x) else more_rows others (cells_in here x) rows) ≡ (if b then next else 3 + (cell_weights (cells_in (if c then last else here) x) + (if c then 0 else rest)))
more_loaded true c under lines others last here x rows next rest e f = e
more_loaded false true under lines others last here x rows next rest e f = omega arith
more_loaded false false under lines others last here x rows next rest e f = omega (arith, f)

rows_loaded : (columns : Columns) (line : Line) (x : Element) (xs : List Element) → row_weights (rows_behind columns line x xs) ≡ row_loads columns line (x ∷ xs)
rows_loaded columns line x [] = last_loaded columns line (line_of x) (not (is_drawn line) && is_line x) x (line_drawn (is_drawn line) (is_line x))
rows_loaded columns line x (y ∷ ys) =
    more_loaded (not (is_drawn line) && is_line x) (are_line (y ∷ ys)) _ _ _ (in_last_row columns) columns x _ _ _ (rows_loaded columns (line_of x) y ys) (rows_loaded (behind_row columns) NoLine y ys)

-- a table has a line where one of its elements is a line

last_lined : (columns : Columns) (line l : Line) (x : Element) → have_line (if not (is_drawn line) && is_drawn l then one_row (row_lines l NoLine) (one_cell (column_at columns zero) none) else one_row (row_lines line NoLine) (cells_in (in_last_row columns) x)) ≡ (is_drawn line || (is_drawn l || false))
last_lined columns NoLine NoLine x = refl
last_lined columns NoLine OneLine x = refl
last_lined columns NoLine TwoLines x = refl
last_lined columns NoLine Dashes x = refl
last_lined columns OneLine l x = refl
last_lined columns TwoLines l x = refl
last_lined columns Dashes l x = refl

more_lined : (line l below : Line) (last rest : Bool) (under rows : Rows) (ending cells : Cells) → (is_drawn below ≡ true → last ≡ true) → have_line under ≡ (is_drawn l || (last || rest)) → have_line rows ≡ (last || rest) → have_line (if not (is_drawn line) && is_drawn l then under else if is_drawn below then one_row (row_lines line below) ending else more_rows (row_lines line NoLine) cells rows) ≡ (is_drawn line || (is_drawn l || (last || rest)))
more_lined NoLine NoLine NoLine last rest under rows ending cells h e f = f
more_lined NoLine NoLine OneLine last rest under rows ending cells h e f = sym (ap (λ b. b || rest) (h refl))
more_lined NoLine NoLine TwoLines last rest under rows ending cells h e f = sym (ap (λ b. b || rest) (h refl))
more_lined NoLine NoLine Dashes last rest under rows ending cells h e f = sym (ap (λ b. b || rest) (h refl))
more_lined NoLine OneLine below last rest under rows ending cells h e f = e
more_lined NoLine TwoLines below last rest under rows ending cells h e f = e
more_lined NoLine Dashes below last rest under rows ending cells h e f = e
more_lined OneLine l NoLine last rest under rows ending cells h e f = refl
more_lined OneLine l OneLine last rest under rows ending cells h e f = refl
more_lined OneLine l TwoLines last rest under rows ending cells h e f = refl
more_lined OneLine l Dashes last rest under rows ending cells h e f = refl
more_lined TwoLines l NoLine last rest under rows ending cells h e f = refl
more_lined TwoLines l OneLine last rest under rows ending cells h e f = refl
more_lined TwoLines l TwoLines last rest under rows ending cells h e f = refl
more_lined TwoLines l Dashes last rest under rows ending cells h e f = refl
more_lined Dashes l NoLine last rest under rows ending cells h e f = refl
more_lined Dashes l OneLine last rest under rows ending cells h e f = refl
more_lined Dashes l TwoLines last rest under rows ending cells h e f = refl
more_lined Dashes l Dashes last rest under rows ending cells h e f = refl

line_first : (y : Element) (ys : List Element) → are_line (y ∷ ys) ≡ true → is_line y ≡ true
line_first y [] h = h
line_first y (z ∷ ys) h = absurd (cc h)

rows_lined : (columns : Columns) (line : Line) (x : Element) (xs : List Element) → have_line (rows_behind columns line x xs) ≡ (is_drawn line || has_line (x ∷ xs))
rows_lined columns line x [] = last_lined columns line (line_of x) x
rows_lined columns line x (y ∷ ys) =
    more_lined line (line_of x) (last_line (y ∷ ys)) (is_line y) (has_line ys) _ _ (cells_in (in_last_row columns) x) (cells_in columns x) (line_first y ys) (rows_lined columns (line_of x) y ys) (rows_lined (behind_row columns) NoLine y ys)

-- the attributes of a table whose columns or whose rows have lines
joined_once : (b c : Bool) (a : Attributes) → table_attributes c (table_attributes b a) ≡ table_attributes (b || c) a
joined_once true true a = refl
joined_once true false a = refl
joined_once false c a = refl

pub table_written : (a : Attributes) (columns : Columns) (xs : List Element) → 0 < length xs → print (table_with a columns xs) ≡ start_tag (codes "mtable") (table_attributes (are_lined columns || has_line xs) a) ++ (row_prints columns NoLine xs ++ end_tag (codes "mtable"))
table_written a columns [] h = absurd (omega arith)
table_written a columns (x ∷ xs) h =
    ap (λ b. start_tag (codes "mtable") (table_attributes b (attributes_in columns a)) ++ (rows_print (rows_behind columns NoLine x xs) ++ end_tag (codes "mtable"))) (rows_lined columns NoLine x xs)
    ∙ ap (λ l. start_tag (codes "mtable") l ++ (rows_print (rows_behind columns NoLine x xs) ++ end_tag (codes "mtable"))) (joined_once (are_lined columns) (has_line (x ∷ xs)) a)
    ∙ ap (λ l. start_tag (codes "mtable") (table_attributes (are_lined columns || has_line (x ∷ xs)) a) ++ (l ++ end_tag (codes "mtable"))) (rows_written columns NoLine x xs)

pub table_loaded : (a : Attributes) (columns : Columns) (xs : List Element) → 0 < length xs → weight (table_with a columns xs) ≡ 4 + row_loads columns NoLine xs
table_loaded a columns [] h = absurd (omega arith)
table_loaded a columns (x ∷ xs) h = omega (arith, rows_loaded columns NoLine x xs)

-- nothing is left after the last row, and something after another one

none_left : (n : ℕ) (xs : List Element) → (if is_drawn (last_line (take n xs)) then 0 else n) ≡ 0 → is_last (take n xs) ≡ true
none_left zero xs nothing = refl
none_left (suc n) [] nothing = refl
none_left (suc n) (x ∷ xs) nothing = drawn_last (is_drawn (last_line (take (suc n) (x ∷ xs)))) n nothing
  where
    drawn_last : (b : Bool) (n : ℕ) → (if b then 0 else suc n) ≡ 0 → b ≡ true
    drawn_last true n nothing = refl
    drawn_last false n nothing = cc

some_left : (n : ℕ) (xs : List Element) → n ≤ length xs → ((if is_drawn (last_line (take n xs)) then 0 else n) ≡ 0 → ⊥) → is_last (take n xs) ≡ false
some_left zero xs enough some = absurd (some refl)
some_left (suc n) [] enough some = absurd (omega arith)
some_left (suc n) (x ∷ xs) enough some = not_drawn (is_drawn (last_line (take (suc n) (x ∷ xs)))) (suc n) some
  where
    not_drawn : (b : Bool) (n : ℕ) → ((if b then 0 else n) ≡ 0 → ⊥) → b ≡ false
    not_drawn true n some = absurd (some refl)
    not_drawn false n some = refl

-- Some elements are the first of them and the others

next_there : (first : ℕ) (xs : List Element) → first < length xs → (x : Element) × (drop first xs ≡ x ∷ drop (suc first) xs)
next_there first [] h = absurd (omega arith)
next_there zero (x ∷ xs) h = (x, refl)
next_there (suc k) (x ∷ xs) h = next_there k xs (omega arith)

module _ (columns : Columns) (xs : List Element) (first count : ℕ) (some : 0 < count) (enough : first + count ≤ length xs) where
  abbrev all : List Element
  all = take count (drop first xs)

  abbrev one : List Element
  one = take 1 (drop first xs)

  abbrev others : List Element
  others = take (count - 1) (drop (first + 1) xs)

  abbrev there : (x : Element) × (drop first xs ≡ x ∷ drop (suc first) xs)
  there = next_there first xs (omega arith)

  all_are : all ≡ there.0 ∷ others
  all_are =
      let next : first + 1 ≡ suc first = omega arith in
      first_taken count (drop first xs) (drop (first + 1) xs) there.0 some (there.1 ∙ ap (λ n. there.0 ∷ drop n xs) (sym next))

  enough_others : count - 1 ≤ length (drop (first + 1) xs)
  enough_others = (let size = length-drop (first + 1) xs in omega (arith, enough, some, size))

  one_is : one ≡ there.0 ∷ []
  one_is = ap (take 1) there.1

  -- the elements after the row of the first one
  abbrev left : ℕ
  left = if are_line others then 0 else count - 1

  abbrev after : List Element
  after = take left (drop (first + 1) xs)

  -- the columns of that row
  abbrev pub here : Columns
  here = columns_before others columns

  -- that row is the last one exactly if nothing is left after it
  pub last_there : (if is_drawn (last_line others) then 0 else count - 1) ≡ 0 → here ≡ in_last_row columns
  last_there nothing = ap (λ b. if b then in_last_row columns else columns) (none_left (count - 1) (drop (first + 1) xs) nothing)

  pub more_there : ((if is_drawn (last_line others) then 0 else count - 1) ≡ 0 → ⊥) → here ≡ columns
  more_there some = ap (λ b. if b then in_last_row columns else columns) (some_left (count - 1) (drop (first + 1) xs) enough_others some)

  is_row : (line : Line) → (not (is_drawn line) && is_drawn (first_line (drop first xs))) ≡ false → (not (is_drawn line) && is_line there.0) ≡ false
  is_row line h = sym (ap (λ l. not (is_drawn line) && is_drawn (first_line l)) there.1) ∙ h

  -- the row of the first one, and the rows after it
  pub row_taken : (line : Line) → (not (is_drawn line) && is_drawn (first_line (drop first xs))) ≡ false → row_prints columns line all ≡ row_print (row_lines line (last_line others)) (cell_prints here zero (in_cells (drop first xs))) ++ row_prints (behind_row columns) NoLine after
  row_taken line h =
      ap (row_prints columns line) all_are
      ∙ row_first columns line there.0 others (is_row line h)
      ∙ ap (λ l. row_print (row_lines line (last_line others)) (cells_print (cells_in here there.0)) ++ l) (rest_written (behind_row columns) (are_line others) (count - 1) (drop (first + 1) xs))
      ∙ ap (λ l. row_print (row_lines line (last_line others)) l ++ row_prints (behind_row columns) NoLine after) (row_written here there.0 (drop (suc first) xs) ∙ ap (λ l. cell_prints here zero (in_cells l)) (sym there.1))

  pub row_load_taken : (line : Line) → (not (is_drawn line) && is_drawn (first_line (drop first xs))) ≡ false → row_loads columns line all ≡ 3 + (cell_loads (in_cells (drop first xs)) + row_loads (behind_row columns) NoLine after)
  row_load_taken line h =
      let is : row_loads columns line all ≡ 3 + (cell_weights (cells_in here there.0) + (if are_line others then 0 else row_loads (behind_row columns) NoLine others)) = ap (row_loads columns line) all_are ∙ row_load_first columns line there.0 others (is_row line h) in
      let rest = rest_loaded (behind_row columns) (are_line others) (count - 1) (drop (first + 1) xs) in
      let cells : cell_weights (cells_in here there.0) ≡ cell_loads (in_cells (drop first xs)) = row_loaded here there.0 (drop (suc first) xs) ∙ ap (λ l. cell_loads (in_cells l)) (sym there.1) in
      omega (arith, is, rest, cells)

  -- a line before the others

  first_is : first_line (drop first xs) ≡ line_of there.0
  first_is = ap first_line there.1

  is_first : is_drawn (first_line (drop first xs)) ≡ true → is_line there.0 ≡ true
  is_first h = sym (ap is_drawn first_is) ∙ h

  pub line_taken : is_drawn (first_line (drop first xs)) ≡ true → row_prints columns NoLine all ≡ row_prints columns (first_line (drop first xs)) others
  line_taken h =
      ap (row_prints columns NoLine) all_are
      ∙ ap (λ b. if b then row_prints columns (line_of there.0) others else row_print (row_lines NoLine (last_line others)) (cells_print (cells_in here there.0)) ++ (if are_line others then [] else row_prints (behind_row columns) NoLine others)) (is_first h)
      ∙ ap (λ l. row_prints columns l others) (sym first_is)

  pub line_load_taken : is_drawn (first_line (drop first xs)) ≡ true → row_loads columns NoLine all ≡ row_loads columns (first_line (drop first xs)) others
  line_load_taken h =
      ap (row_loads columns NoLine) all_are
      ∙ ap (λ b. if b then row_loads columns (line_of there.0) others else 3 + (cell_weights (cells_in here there.0) + (if are_line others then 0 else row_loads (behind_row columns) NoLine others))) (is_first h)
      ∙ ap (λ l. row_loads columns l others) (sym first_is)

  -- whether there is a line: the first element is one, or one of the others
  pub line_among : (b : Bool) → is_drawn (first_line (drop first xs)) ≡ b → has_line all ≡ (b || has_line others)
  line_among b h =
      ap has_line all_are ∙ ap (λ k. k || has_line others) (sym (ap is_drawn first_is) ∙ h)

  pub cells_parted : (k : ℕ) → cell_prints columns k all ≡ cell_prints columns k one ++ cell_prints columns (suc k) others
  cells_parted k =
      ap (cell_prints columns k) all_are
      ∙ cell_first columns k there.0 others
      ∙ ap (λ l. cell_prints columns k l ++ cell_prints columns (suc k) others) (sym one_is)

  pub cell_loads_parted : cell_loads all ≡ cell_loads one + cell_loads others
  cell_loads_parted =
      let left = ap cell_loads all_are in
      let right = ap cell_loads one_is in
      omega (arith, left, right)

-- What is written before the cells of a row or in a cell, and what is due after that

pub begun : (out old start inner whole new both : List ℕ) → new ≡ out ++ start → both ≡ new ++ (inner ++ old) → whole ≡ start ++ inner → both ≡ out ++ (whole ++ old)
begun out old start inner whole new both writes puts is =
    puts
    ∙ ap (λ l. l ++ (inner ++ old)) writes
    ∙ append_assoc out start (inner ++ old)
    ∙ ap (λ l. out ++ l) (sym (ap (λ l. l ++ old) is ∙ append_assoc start inner old))

-- the first of some is followed by the others and an end tag
pub ended : (every first others end : List ℕ) → every ≡ first ++ others → every ++ end ≡ first ++ (others ++ end)
ended every first others end is = ap (λ l. l ++ end) is ∙ append_assoc first others end

-- the start tag of a cell is written, and the rest of the cell follows
pub cell_begun : (out start rest run new whole : List ℕ) → new ≡ out ++ start → run ≡ rest → whole ≡ start ++ rest → new ++ run ≡ out ++ whole
cell_begun out start rest run new whole writes follows is =
    ap (λ l. l ++ run) writes
    ∙ append_assoc out start run
    ∙ ap (λ l. out ++ (start ++ l)) follows
    ∙ ap (λ l. out ++ l) (sym is)

-- what is due comes after that
pub before_due : (out new run first below : List ℕ) → new ++ run ≡ out ++ first → new ++ (run ++ below) ≡ out ++ (first ++ below)
before_due out new run first below is =
    sym (append_assoc new run below) ∙ ap (λ l. l ++ below) is ∙ append_assoc out first below

-- the first of some is written, and the others are due before everything else
pub others_due : (out old first others every below whole : List ℕ) → every ≡ first ++ others → below ≡ others ++ old → whole ≡ out ++ (first ++ below) → whole ≡ out ++ (every ++ old)
others_due out old first others every below whole is puts writes =
    writes
    ∙ ap (λ l. out ++ (first ++ l)) puts
    ∙ ap (λ l. out ++ l) (sym (ap (λ l. l ++ old) is ∙ append_assoc first others old))
