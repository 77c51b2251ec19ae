-- What holds of the parser within tables.
use Rattle.std.proofs.Common.{◌≡◌, ℕ, ℤ, pos, zero, suc, ◌+◌, ◌<◌, ◌≤◌, List, [], ◌∷◌, drop, length, take, refl, sym, ap, subst, ◌∙◌, arith}
use Rattle.std.proofs.lemmas.List.{drop-drop, length-drop, length-take-le}
use Rattle.latex2mathml_elements.specs.{Columns.Columns, Columns.column_at, Columns.density_in, Extents.Extent, Struts.strut}
use Rattle.latex2mathml_elements.specs.Element.{Element, rectangle}
use Rattle.latex2mathml_elements.specs.Lines.{Line, NoLine, OneLine, TwoLines, Dashes}
use Rattle.latex2mathml_elements.specs.Tables.{row_line}
use Rattle.latex2mathml_builder.specs.Built.{Built, elements_in}
use Rattle.latex2mathml_tex_grammar.specs.{RowGaps.gap_at, RowLines.line_next, RowLines.lined, Atoms.Kind, Rows.Row, Rows.lone, Rows.row_element, Scanning.BeforeRow, Scanning.past, Scanning.past_break, Scanning.past_gap}
use Rattle.latex2mathml_tex_grammar.specs.Reading.{Outcome, Read, Refused, ReadsAtoms, ReadsRows, cell_read, cell_refused, next_cell, next_row, table_ends, text_ends_table}
use Rattle.latex2mathml_tex_grammar.specs.Rules.{Context as RuleContext, InCell, TableEnd, styled}
use Rattle.latex2mathml_tex_grammar.specs.Starts.{PartsCells, EndsRow, EndsTable as TableEnds, cell_end}
use Rattle.latex2mathml_tex_grammar.specs.Tables.{Lines, a_row, row_of, before_cell, begun_cell, cell_of, with_last}
use Rattle.latex2mathml_tex_grammar.specs.Units.{Units, End}
use Rattle.latex2mathml_tex.specs.Frames.{Start, context_at, inside}
use Rattle.latex2mathml_tex.specs.Innermost.{frame_context}
use Rattle.latex2mathml_tex_atoms.specs.Models.{empty_row}
use Rattle.latex2mathml_tex.specs.Levels.{CoreMade, Leads, Level, RuleLeads}
use Rattle.latex2mathml_tex_units.specs.{Left.units_at, Taking.piece_of, Taking.unit_of}
use Rattle.latex2mathml_tex_commands.specs.Meanings.{style_of}
use Rattle.latex2mathml_tex_atoms.specs.Models.{before_of, context_of, kind_of, row_count, row_with}
use Rattle.latex2mathml_tex.specs.Steps.{BeginsTable, CanMake, ClosesCell, EndsCells, EndsRows, GoesOnTable, InnermostIs, core_made, elements_of, left_of, level, level_within}
use Rattle.latex2mathml_tex.specs.Tables.{CellMade, RowsLead, TableMade, behind_rows, cell_context, cells_of, columns_in, line_count, rows_of, style_in, table_end}
use Rattle.latex2mathml_tex_units.specs.declared.{input.Input.Input, unit.Unit.Unit as CodeUnit}
use Rattle.latex2mathml_tex_commands.specs.declared.meaning.Style.{Style}
use Rattle.latex2mathml_tex_atoms.specs.declared.{atoms.Context.Context, atoms.Kind.Kind as CodeKind, atoms.Row.Row as CodeRow}
use Rattle.latex2mathml_tex.specs.declared.parse.Parser.{Parser}
use Rattle.latex2mathml_tex.specs.declared.parse.endings.{Table.Table, TableKind.TableKind}
use Rattle.latex2mathml_tex.specs.declared.parse.frames.Frame.{Frame}
use Rattle.latex2mathml_tex.specs.declared.parse.endings.Ending.TheVariants as ending
use Rattle.latex2mathml_tex.specs.declared.parse.frames.Frame.TheVariants as frame
use Rattle.latex2mathml_tex_atoms.proofs.Wording.{drop_more, take_more}
use Rattle.latex2mathml_tex.proofs.Opening.{context_is}

-- A cell is due

cell_due : {end : TableEnd} {place : ℕ} {columns : Columns} {c : RuleContext} {rows cells : List Element} {K : Outcome Lines → Type 0} {l : Units} → ((o : Outcome Lines) → ReadsRows end place columns c rows cells l o → K o) → (o : Outcome Row) → ReadsAtoms (InCell end place) c (begun_cell columns (length cells)) l o → CellMade end place columns c rows cells K o
cell_due k (Read row m) d = λ o ds. k o (cell_read d ds)
cell_due k (Refused r) d = k (Refused r) (cell_refused d)

-- the row of the cell, before its first atom
begun_is : (row : CodeRow) (columns : Columns) (n k : ℕ) (xs : List Element) → row ≡ record empty_row { before = row.before } → before_of row.before ≡ before_cell (column_at columns n).alignment → k ≡ n → row_with row xs ≡ begun_cell columns k
begun_is row columns n k xs is before e = ap (λ r. row_with r xs) is ∙ rw (before, e) refl

module _ (s : Start) (p : Parser) (t : Table) (place : ℕ) where
  abbrev beside : ℕ
  beside = t.cells + t.rows

  abbrev around_it : Level
  around_it = inside s p.frames.stack.items (drop beside (elements_of p))

  abbrev Cell : RuleContext → Row → List Element → ℕ → Type 0
  Cell c r xs n = (o : Outcome Row) → ReadsAtoms (InCell (table_end t) place) c r (left_of p) o → TableMade t place xs (context_at (inside s p.frames.stack.items (drop n (elements_of p)))) (CoreMade (inside s p.frames.stack.items (drop n (elements_of p)))) o

  pub cell_begins : (f : Frame) (around context : Context) (st : Style) (row : CodeRow) → CanMake core_made beside p → around ≡ frame_context f → InnermostIs f p → context ≡ record around { style = st } → style_of st ≡ style_in t.kind → row ≡ record empty_row { before = row.before } → before_of row.before ≡ before_cell (column_at (columns_in t.kind) t.cells).alignment → GoesOnTable t place s p → Leads (level_within (frame.Row (ending.Cell t) place context row) 0 s p) (left_of p)
  cell_begins f around context st row can is inner restyled same row_is before g =
      let outer : context_of around ≡ context_at around_it = ap context_of is ∙ context_is s p.style p.frames.stack.items f (drop beside (elements_of p)) g.style inner in
      let own : context_of context ≡ cell_context t (context_at around_it) =
      ap context_of restyled ∙ ap (λ x. styled (context_of around) x) same ∙ ap (λ c. styled c (style_in t.kind)) outer in
      let count : length (cells_of t (elements_of p)) ≡ t.cells = length-take-le t.cells (elements_of p) (omega (arith, can.elements)) in
      let begun : row_with row (elements_of p) ≡ begun_cell (columns_in t.kind) (length (cells_of t (elements_of p))) =
      begun_is row (columns_in t.kind) t.cells (length (cells_of t (elements_of p))) (elements_of p) row_is before count in
      let none : row_count row ≡ 0 = ap row_count row_is in
      let beside_all : row_count row + beside ≡ beside = omega (arith, none) in
      let due : Cell (cell_context t (context_at around_it)) (begun_cell (columns_in t.kind) (length (cells_of t (elements_of p)))) (elements_of p) beside = cell_due g.leads in
      let below : drop (row_count row) (elements_of p) ≡ elements_of p = ap (λ n. drop n (elements_of p)) none in
      subst (λ n. Cell (context_of context) (row_with row (elements_of p)) (drop (row_count row) (elements_of p)) n) (sym beside_all)
      (subst (λ xs. Cell (context_of context) (row_with row (elements_of p)) xs beside) (sym below)
      (subst (λ r. Cell (context_of context) r (elements_of p) beside) (sym begun)
      (subst (λ c. Cell c (begun_cell (columns_in t.kind) (length (cells_of t (elements_of p)))) (elements_of p) beside) (sym own) due)))

-- What ends a cell

-- the next cell of a table is due, where these are its rows and its cells, within this level
abbrev pub Due : Table → ℕ → List Element → List Element → Level → Units → Type 0
Due t place rows cells l m = (o : Outcome Lines) → ReadsRows (table_end t) place (columns_in t.kind) (cell_context t (context_at l)) rows cells m o → RowsLead (behind_rows t (context_at l)) (CoreMade l) o

pub goes_on : (s : Start) (q : Parser) (t : Table) (place : ℕ) (rows cells ys : List Element) → s.style ≡ style_of q.style → rows_of t (elements_of q) ≡ rows → cells_of t (elements_of q) ≡ cells → drop (t.cells + t.rows) (elements_of q) ≡ ys → Due t place rows cells (inside s q.frames.stack.items ys) (left_of q) → GoesOnTable t place s q
goes_on s q t place rows cells ys style r c d due = record {
  style = style;
  leads = subst (λ ys. Due t place (rows_of t (elements_of q)) (cells_of t (elements_of q)) (inside s q.frames.stack.items ys) (left_of q)) (sym d)
      (subst (λ k. Due t place (rows_of t (elements_of q)) k (inside s q.frames.stack.items ys) (left_of q)) (sym c)
      (subst (λ k. Due t place k cells (inside s q.frames.stack.items ys) (left_of q)) (sym r) due));
}

-- A line before a row

lined_taken : (line : Line) (n : ℕ) (x : Element) (xs : List Element) → take (n + 1 + line_count line) (lined line (x ∷ xs)) ≡ lined line (x ∷ take n xs)
lined_taken NoLine n x xs = (let more : n + 1 + 0 ≡ n + 1 = omega arith in ap (λ k. take k (x ∷ xs)) more ∙ take_more n x xs)
lined_taken OneLine n x xs = take_more (n + 1) (rectangle (row_line OneLine)) (x ∷ xs) ∙ ap (λ l. rectangle (row_line OneLine) ∷ l) (take_more n x xs)
lined_taken TwoLines n x xs = take_more (n + 1) (rectangle (row_line TwoLines)) (x ∷ xs) ∙ ap (λ l. rectangle (row_line TwoLines) ∷ l) (take_more n x xs)
lined_taken Dashes n x xs = take_more (n + 1) (rectangle (row_line Dashes)) (x ∷ xs) ∙ ap (λ l. rectangle (row_line Dashes) ∷ l) (take_more n x xs)

lined_dropped : (line : Line) (n : ℕ) (x : Element) (xs : List Element) → drop (n + 1 + line_count line) (lined line (x ∷ xs)) ≡ drop n xs
lined_dropped NoLine n x xs = (let more : n + 1 + 0 ≡ n + 1 = omega arith in ap (λ k. drop k (x ∷ xs)) more ∙ drop_more n x xs)
lined_dropped OneLine n x xs = drop_more (n + 1) (rectangle (row_line OneLine)) (x ∷ xs) ∙ drop_more n x xs
lined_dropped TwoLines n x xs = drop_more (n + 1) (rectangle (row_line TwoLines)) (x ∷ xs) ∙ drop_more n x xs
lined_dropped Dashes n x xs = drop_more (n + 1) (rectangle (row_line Dashes)) (x ∷ xs) ∙ drop_more n x xs

line_taken : (line : Line) (xs : List Element) → take (line_count line) (lined line xs) ≡ lined line []
line_taken NoLine xs = refl
line_taken OneLine xs = refl
line_taken TwoLines xs = refl
line_taken Dashes xs = refl

line_dropped : (line : Line) (xs : List Element) → drop (line_count line) (lined line xs) ≡ xs
line_dropped NoLine xs = refl
line_dropped OneLine xs = refl
line_dropped TwoLines xs = refl
line_dropped Dashes xs = refl

-- the first cell of a table is due, after the line before its row
pub first_begins : (s : Start) (p : Parser) (b : Built) (i : Input) (k : TableKind) (place : ℕ) (v : Table) (line : Line) → v ≡ record { kind = k; rows = line_count line; cells = 0 } → elements_in b ≡ lined line (elements_of p) → line ≡ line_next (left_of p) → units_at i ≡ past BeforeRow (left_of p) → BeginsTable k place s p → GoesOnTable v place s (record p { builder = b; input = i })
first_begins s p b i k place v line is put follows units g =
    let n = line_count line in
    let next : Table = record { kind = k; rows = n; cells = 0 } in
    let rows : rows_of next (elements_in b) ≡ lined line [] = ap (take n) put ∙ line_taken line (elements_of p) in
    let none : 0 + n ≡ n = omega arith in
    let all : drop (0 + n) (elements_in b) ≡ elements_of p = ap (λ n. drop n (elements_in b)) none ∙ ap (drop n) put ∙ line_dropped line (elements_of p) in
    let due : Due next place (lined line []) [] (inside s p.frames.stack.items (elements_of p)) (past BeforeRow (left_of p)) = subst (λ k. Due next place (lined k []) [] (inside s p.frames.stack.items (elements_of p)) (past BeforeRow (left_of p))) (sym follows) g.leads in
    subst (λ v. GoesOnTable v place s (record p { builder = b; input = i })) (sym is)
    (goes_on s (record p { builder = b; input = i }) next place (lined line []) [] (elements_of p) g.style rows refl all (subst (λ m. Due next place (lined line []) [] (inside s p.frames.stack.items (elements_of p)) m) (sym units) due))

-- the unit ends the table
abbrev PickedEnd : CodeUnit → Type 0
PickedEnd u = TableEnds ≡ cell_end (piece_of u.piece)

-- the first n of some elements, at least one
some_first : (n : ℕ) (xs : List Element) → 0 < n → n ≤ length xs → (x : Element) × ((ys : List Element) × (take n xs ≡ x ∷ ys))
some_first zero xs some there = absurd (omega arith)
some_first (suc n) [] some there = absurd (omega arith)
some_first (suc n) (x ∷ xs) some there = (x, (take n xs, refl))

-- no element is lost where a sign is all of a cell
pub lone_length : (last : Kind) (xs : List Element) → length (lone last xs) ≡ length xs
lone_length last [] = refl
lone_length last (x ∷ []) = refl
lone_length last (x ∷ y ∷ xs) = refl

kept_last : (columns : Columns) (rows cells cell : List Element) → (length cell ≡ 0 → length cells ≡ 0 → length rows ≡ 0) → with_last columns rows cells cell ≡ record { last = a_row columns (pos 0) (row_element cell) cells; others = rows }
kept_last columns [] cells cell h = refl
kept_last columns (row ∷ rows) (x ∷ cells) cell h = refl
kept_last columns (row ∷ rows) [] (x ∷ cell) h = refl
kept_last columns (row ∷ rows) [] [] h = absurd (let none = h refl refl in omega (arith, none))

pub count_below : (n k : ℕ) (xs : List Element) → k + n ≤ length xs → n ≤ length (drop k xs)
count_below n k xs h = simp length-drop (omega (arith, h))

count_left : (n m k : ℕ) (xs : List Element) → k + (m + n) ≤ length xs → n ≤ length (drop m (drop k xs))
count_left n m k xs h = simp length-drop (omega (arith, h))

module _ (s : Start) (p : Parser) (t : Table) (place : ℕ) (row : CodeRow) (u : CodeUnit) (g : ClosesCell t place row u s p) where
  abbrev below : List Element
  below = drop row.count (elements_of p)

  abbrev cell : Element
  cell = row_element (lone (kind_of row.last) (take row.count (elements_of p)))

  abbrev outside : List Element
  outside = drop (row.count + (t.cells + t.rows)) (elements_of p)

  under : drop (t.cells + t.rows) below ≡ outside
  under = drop-drop (t.cells + t.rows) row.count (elements_of p)

  pub cell_parted : (b : Built) (v : Table) → v ≡ record t { cells = t.cells + 1 } → elements_in b ≡ cell ∷ below → PartsCells ≡ cell_end (piece_of u.piece) → GoesOnTable v place s (record p { builder = b })
  cell_parted b v is put ends =
      let next : Table = record t { cells = t.cells + 1 } in
      let rows : rows_of next (elements_in b) ≡ rows_of t below = ap (λ ys. take t.rows (drop (t.cells + 1) ys)) put ∙ ap (take t.rows) (drop_more t.cells cell below) in
      let cells : cells_of next (elements_in b) ≡ cell ∷ cells_of t below = ap (take (t.cells + 1)) put ∙ take_more t.cells cell below in
      let more : (t.cells + 1) + t.rows ≡ (t.cells + t.rows) + 1 = omega arith in
      let all : drop ((t.cells + 1) + t.rows) (elements_in b) ≡ outside = ap (λ n. drop n (elements_in b)) more ∙ ap (drop ((t.cells + t.rows) + 1)) put ∙ drop_more (t.cells + t.rows) cell below ∙ under in
      subst (λ v. GoesOnTable v place s (record p { builder = b })) (sym is)
      (goes_on s (record p { builder = b }) next place (rows_of t below) (cell ∷ cells_of t below) outside g.style rows cells all (λ o d. g.leads o (next_cell g.next (sym ends) d)))

  pub row_broken : (b : Built) (i : Input) (v : Table) (gap : ℤ) (extent : Extent) (line : Line) → v ≡ record t { rows = t.rows + 1 + line_count line; cells = 0 } → elements_in b ≡ lined line (row_of extent cell (cells_of t below) ∷ drop t.cells below) → extent ≡ strut (density_in (columns_in t.kind)) gap → gap ≡ gap_at (left_of p) → line ≡ line_next (past_gap (left_of p)) → units_at i ≡ past_break (left_of p) → EndsRow ≡ cell_end (piece_of u.piece) → GoesOnTable v place s (record p { builder = b; input = i })
  row_broken b i v gap extent line is puts props below_it follows units ends =
      let n = t.rows + 1 + line_count line in
      let next : Table = record t { rows = n; cells = 0 } in
      let last = a_row (columns_in t.kind) gap cell (cells_of t below) in
      let put : elements_in b ≡ lined line (last ∷ drop t.cells below) = puts ∙ ap (λ e. lined line (row_of e cell (cells_of t below) ∷ drop t.cells below)) props in
      let rows : rows_of next (elements_in b) ≡ lined line (last ∷ rows_of t below) = ap (take n) put ∙ lined_taken line t.rows last (drop t.cells below) in
      let none : 0 + n ≡ n = omega arith in
      let all : drop (0 + n) (elements_in b) ≡ outside = ap (λ n. drop n (elements_in b)) none ∙ ap (drop n) put ∙ lined_dropped line t.rows last (drop t.cells below) ∙ drop-drop t.rows t.cells below ∙ under in
      let due : Due next place (lined (line_next (past_gap (left_of p))) (a_row (columns_in t.kind) (gap_at (left_of p)) cell (cells_of t below) ∷ rows_of t below)) [] (inside s p.frames.stack.items outside) (past_break (left_of p)) = λ o d. g.leads o (next_row g.next (sym ends) d) in
      let due_below : Due next place (lined (line_next (past_gap (left_of p))) (last ∷ rows_of t below)) [] (inside s p.frames.stack.items outside) (past_break (left_of p)) = subst (λ n. Due next place (lined (line_next (past_gap (left_of p))) (a_row (columns_in t.kind) n cell (cells_of t below) ∷ rows_of t below)) [] (inside s p.frames.stack.items outside) (past_break (left_of p))) (sym below_it) due in
      let due_with : Due next place (lined line (last ∷ rows_of t below)) [] (inside s p.frames.stack.items outside) (past_break (left_of p)) = subst (λ k. Due next place (lined k (last ∷ rows_of t below)) [] (inside s p.frames.stack.items outside) (past_break (left_of p))) (sym follows) due_below in
      subst (λ v. GoesOnTable v place s (record p { builder = b; input = i })) (sym is)
      (goes_on s (record p { builder = b; input = i }) next place (lined line (last ∷ rows_of t below)) [] outside g.style rows refl all (subst (λ m. Due next place (lined line (last ∷ rows_of t below)) [] (inside s p.frames.stack.items outside) m) (sym units) due_with))

  -- the table ends after the cell
  pub cell_ends : PickedEnd u → EndsCells t row.count row.last u.place s p
  cell_ends ends = record { style = g.style; leads = (g.leads _ (table_ends g.next (sym ends))).at_unit (unit_of u) (left_of p) g.next }

-- the table ends after the cell where the text ends
pub text_ends_cell : (s : Start) (p : Parser) (t : Table) (place at n : ℕ) (last : CodeKind) (row : Row) → s.style ≡ style_of p.style → left_of p ≡ End at → cell_of row ≡ lone (kind_of last) (take n (elements_of p)) → TableMade t place (drop n (elements_of p)) (context_at (level (n + (t.cells + t.rows)) s p)) (CoreMade (level (n + (t.cells + t.rows)) s p)) (Read row (End at)) → EndsCells t n last at s p
text_ends_cell s p t place at n last row style left cell k =
    let l = level (n + (t.cells + t.rows)) s p in
    let due = (k _ (text_ends_table refl)).at_end at refl in
    record {
      style = style;
      leads = subst (λ m. RuleLeads (behind_rows t (context_at l) (with_last (columns_in t.kind) (rows_of t (drop n (elements_of p))) (cells_of t (drop n (elements_of p))) (lone (kind_of last) (take n (elements_of p)))) at) (CoreMade l) m) (sym left)
          (subst (λ xs. RuleLeads (behind_rows t (context_at l) (with_last (columns_in t.kind) (rows_of t (drop n (elements_of p))) (cells_of t (drop n (elements_of p))) xs) at) (CoreMade l) (End at)) cell due);
    }

module _ (s : Start) (p : Parser) (t : Table) (count : ℕ) (kind : CodeKind) (at : ℕ) (g : EndsCells t count kind at s p) where
  abbrev behind : List Element
  behind = drop count (elements_of p)

  abbrev atoms : List Element
  atoms = lone (kind_of kind) (take count (elements_of p))

  abbrev last_cell : Element
  last_cell = row_element atoms

  abbrev beyond : List Element
  beyond = drop (count + (t.cells + t.rows)) (elements_of p)

  beyond_is : drop (t.cells + t.rows) behind ≡ beyond
  beyond_is = drop-drop (t.cells + t.rows) count (elements_of p)

  -- what follows the rows leads on, without these elements
  abbrev Ended : Lines → List Element → Type 0
  Ended lines ys = RuleLeads (behind_rows t (context_at (inside s p.frames.stack.items ys)) lines at) (CoreMade (inside s p.frames.stack.items ys)) (left_of p)

  -- an empty last row does not count
  pub row_is_none : count ≡ 0 → t.cells ≡ 0 → 0 < t.rows → t.rows ≤ length (elements_of p) → EndsRows t.kind t.rows at s p
  row_is_none empty no_cells some there =
      let others : take t.rows (elements_of p) ≡ rows_of t behind = sym (ap (λ n. take t.rows (drop t.cells (drop n (elements_of p)))) empty ∙ ap (λ n. take t.rows (drop n (elements_of p))) no_cells) in
      let beside : count + (t.cells + t.rows) ≡ t.rows = omega (arith, empty, no_cells) in
      let (last, (rest, split)) = some_first t.rows (elements_of p) some there in
      let cells : cells_of t behind ≡ [] = ap (λ n. take n behind) no_cells in
      let no_atoms : atoms ≡ [] = ap (λ n. lone (kind_of kind) (take n (elements_of p))) empty in
      let lines : with_last (columns_in t.kind) (rows_of t behind) (cells_of t behind) atoms ≡ record { last = last; others = rest } =
      ap (λ k. with_last (columns_in t.kind) k (cells_of t behind) atoms) (sym others ∙ split) ∙ ap (λ k. with_last (columns_in t.kind) (last ∷ rest) k atoms) cells ∙ ap (with_last (columns_in t.kind) (last ∷ rest) []) no_atoms in
      record {
        style = g.style;
        lines = record { last = last; others = rest };
        are = split;
        leads = subst (λ n. Ended (record { last = last; others = rest }) (drop n (elements_of p))) beside (subst (λ k. Ended k beyond) lines g.leads);
      }

  pub row_is_last : (b : Built) (n : ℕ) (extent : Extent) → n ≡ t.rows + 1 → (count ≡ 0 → t.cells ≡ 0 → t.rows ≡ 0) → count + (t.cells + t.rows) ≤ length (elements_of p) → elements_in b ≡ row_of extent last_cell (cells_of t behind) ∷ drop t.cells behind → extent ≡ strut (density_in (columns_in t.kind)) (pos 0) → EndsRows t.kind n at s (record p { builder = b })
  row_is_last b n extent is no_other there puts props =
      let last = a_row (columns_in t.kind) (pos 0) last_cell (cells_of t behind) in
      let put : elements_in b ≡ last ∷ drop t.cells behind = puts ∙ ap (λ e. row_of e last_cell (cells_of t behind) ∷ drop t.cells behind) props in
      let lines : Lines = record { last = last; others = rows_of t behind } in
      let rows_there : length (rows_of t behind) ≡ t.rows = length-take-le t.rows (drop t.cells behind) (count_left t.rows t.cells count (elements_of p) there) in
      let cells_there : length (cells_of t behind) ≡ t.cells = length-take-le t.cells behind (count_below t.cells count (elements_of p) (omega (arith, there))) in
      let atoms_there : length atoms ≡ count = lone_length (kind_of kind) (take count (elements_of p)) ∙ length-take-le count (elements_of p) (omega (arith, there)) in
      let whole : with_last (columns_in t.kind) (rows_of t behind) (cells_of t behind) atoms ≡ lines =
      kept_last (columns_in t.kind) (rows_of t behind) (cells_of t behind) atoms (λ e f. rows_there ∙ no_other (sym atoms_there ∙ e) (sym cells_there ∙ f)) in
      let first : take (t.rows + 1) (elements_in b) ≡ last ∷ rows_of t behind = ap (take (t.rows + 1)) put ∙ take_more t.rows last (drop t.cells behind) in
      let all : drop (t.rows + 1) (elements_in b) ≡ beyond = ap (drop (t.rows + 1)) put ∙ drop_more t.rows last (drop t.cells behind) ∙ drop-drop t.rows t.cells behind ∙ beyond_is in
      record {
        style = g.style;
        lines = lines;
        are = ap (λ k. take k (elements_in b)) is ∙ first;
        leads = subst (λ k. Ended lines (drop k (elements_in b))) (sym is) (subst (Ended lines) (sym all) (subst (λ k. Ended k beyond) whole g.leads));
      }
