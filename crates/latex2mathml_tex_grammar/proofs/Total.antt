-- Units have an outcome, whatever they are.
use Rattle.std.proofs.Common.{ℕ, zero, suc, ◌<◌, ◌≤◌, ◌≡◌, Bool, false, inl, inr, List, [], ◌∷◌, length, Option, Some, None, refl, ap, ◌∙◌, arith, codes}
use Rattle.std.specs.Bool.{⊤}
use Rattle.latex2mathml_elements.specs.Element.{Element}
use Rattle.std.proofs.lemmas.Bool.{cases_Bool}
use Rattle.std.specs.Bool.{⊤}
use Rattle.latex2mathml_tex_grammar.specs.{Atoms.Atom, Atoms.Before, Rows.Row, Rows.Operand, Rows.empty_row, Rows.row_element, Rows.with_atom, Rows.operand_of, Rows.single, Delimiters.delimiter_of, Laws.HasOneOutcome, Makes.Core, Makes.core, Makes.divider, Makes.Scripts, Makes.no_scripts, Meaning.Beside, Meaning.Change, RowGaps.gap_at, RowLines.line_next, RowLines.lined, Tables.Lines, Tables.begun_cell, Tables.cell_of, Tables.a_row, Tables.with_last}
use Rattle.latex2mathml_tex_grammar.specs.Next.{follows, is_space_piece, past_space, digits_next}
use Rattle.latex2mathml_tex_grammar.specs.Reading.{Outcome, Read, Refused, ReadsRule, rule_gives, rule_refuses, operand_read, operand_refused, core_read, core_refused, core_missing, core_stopped, atoms_read, atoms_refused, words_read, words_refused, units_taken, units_missing, unit_follows, no_unit_follows, digits_taken, delimiter_taken, delimiter_missing, ReadsOperand, group_operand, group_refused, digit_operand, other_operand, other_refused, no_operand, operand_at_end, operand_stopped, ReadsScripts, scripts_end, mark_taken, script_read, script_refused, mark_refused, ReadsAtom, divider_read, divider_refused, on_empty_row, base_read, base_refused, ReadsAtoms, text_ends, never_ended, atoms_stopped, atoms_end, atom_read, atom_refused, rest_read, change_refused, found_taken, found_refused, passed_over, rows_read, rows_refused, ReadsRows, cell_read, cell_refused, ReadsBehindCell, next_cell, arrow_read, arrow_refused, no_arrow, next_row, table_ends, rows_to_end, text_ends_table}
use Rattle.latex2mathml_tex_grammar.specs.Diagrams.{arrow_of, before_arrow, fills_cell, sign_of_arrow}
use Rattle.latex2mathml_tex_grammar.specs.Refusal.{Refusal}
use Rattle.latex2mathml_tex_grammar.specs.Rests.{Rest, GoesOnIn, NoRest, finished, rest_behind_name, rest_below, rest_in, rest_of}
use Rattle.latex2mathml_tex_grammar.specs.{Colors.color_of, Meaning.Change, Meaning.ToAlphabet, Meaning.ToStyle, Meaning.ToSize, Meaning.ToColor, Meaning.Divides, Meaning.FractionRule, Rows.Upper}
use Rattle.latex2mathml_tex_grammar.specs.Scanning.{BeforeColor}
use Rattle.latex2mathml_elements.specs.Colors.{Color}
use Rattle.latex2mathml_tex_grammar.specs.Rules.{Context, styled, Ending, WholeText, InBraces, InBrackets, InDollars, InDelimiters, InLabel, begun, Rule, arrow_rule, gives, refuses, reads_operand, reads_core, reads_atoms, reads_words, takes_if, if_follows, takes_digits, takes_delimiter, rule, TableEnd, InCell, takes_found, passes_over, reads_rows}
use Rattle.latex2mathml_tex_grammar.specs.Starts.{Mark, change_by, start_of_mark, is_command, step_of, AtomStart, DividerStart, ScriptStart, RuleStart, ChangeStart, OperandStart, NoStart, GroupStart, DigitStart, OtherStart, atom_start, operand_start, mark_of, Step, GoesOn, TakesOperand, Forbidden, step_of_mark, step_next, empty_base, ends, unended, left_behind, CellEnd, PartsCells, BeginsArrow, EndsRow, EndsTable, cell_end}
use Rattle.latex2mathml_elements.specs.Columns.{Columns}
use Rattle.latex2mathml_tex_grammar.specs.Scanning.{Spot, BeforeRow, Found, Given, Missing, scan, past, past_break, past_gap}
use Rattle.latex2mathml_tex_grammar.specs.Symbols.{InScript}
use Rattle.latex2mathml_tex_grammar.specs.Units.{Piece, Space, Open, Close, Command, Character, Unit, Units, Next, End}
use Rattle.latex2mathml_tex_grammar.specs.Words.{no_words}
use Rattle.latex2mathml_tex_grammar.proofs.{Spaces.next_stays, Unique.one_atoms}
use Rattle.latex2mathml_tex_grammar.specs.Macros.{unit_count as size}
use Rattle.latex2mathml_tex_grammar.proofs.Outcomes.{Comes, with_outcome, after, sees, size-past_space, size-digits_next, scan_fits, size-past, size-past_break, Finds, find_next, RowsCome, with_rows, HasOutcomes, FoundFits, comes_to, is_refused, sees_unit, sees_end, sees_stop, finds, finds_none, rows_come, rows_come_to_end, rows_none}
use Rattle.latex2mathml_tex_grammar.proofs.TotalWords.{word_total, words_total}

-- With one unit more

begun_operand : (k : ℕ) → HasOutcomes k → (place : ℕ) (c : Context) (l m : Units) (u : Unit) → past_space l ≡ Next u m → size m < size l → size l < suc k → (start : OperandStart) → operand_start u.piece ≡ start → Comes Operand (ReadsOperand place c l) (size l)
begun_operand k has place c l m u p less h NoStart s = is_refused _ (no_operand p s)
begun_operand k has place c l m u p less h GroupStart s = elim (has.of_atoms (InBraces u.place) c empty_row m (omega arith)) [
  | comes_to row n fits d ↦ comes_to (operand_of row) n (omega arith) (group_operand p s d)
  | is_refused r d ↦ is_refused r (group_refused p s d)
]
begun_operand k has place c l m u p less h (DigitStart digit) s = comes_to _ m (omega arith) (digit_operand p s)
begun_operand k has place c l m u p less h OtherStart s = elim (has.of_rule (rule u.place c u.piece) m (omega arith)) [
  | comes_to x n fits d ↦ comes_to (single c.style x.atom) n (omega arith) (other_operand p s d)
  | is_refused r d ↦ is_refused r (other_refused p s d)
]

operand_total : (k : ℕ) → HasOutcomes k → (place : ℕ) (c : Context) (l : Units) → size l < suc k → Comes Operand (ReadsOperand place c l) (size l)
operand_total k has place c l h = elim (sees l) [
  | sees_unit u m p less ↦ begun_operand k has place c l m u p less h (operand_start u.piece) refl
  | sees_end at p ↦ is_refused _ (operand_at_end p)
  | sees_stop r p ↦ is_refused r (operand_stopped p)
]

-- a mark is taken
stepped : (k : ℕ) → HasOutcomes k → (c : Context) (before : Before) (base : Atom) (scripts : Scripts) (l m : Units) (u : Unit) → past_space l ≡ Next u m → size m < k → (step : Step) → step_of_mark scripts (mark_of u.piece) ≡ Some step → Comes Atom (ReadsScripts c before base scripts l) (size m)
stepped k has c before base scripts l m u p h (GoesOn more) s = with_outcome (has.of_scripts c before base more m h) (omega arith) (λ o. mark_taken p s)
stepped k has c before base scripts l m u p h (TakesOperand f) s =
    after (λ x n. ReadsScripts c before base (f x) n) (has.of_operand u.place (styled c InScript) m h) (omega arith) (λ x n fits. has.of_scripts c before base (f x) n (omega arith)) (λ x n o. script_read p s) (λ r. script_refused p s)
stepped k has c before base scripts l m u p h (Forbidden kind) s = is_refused _ (mark_refused p s)

marked : (k : ℕ) → HasOutcomes k → (c : Context) (before : Before) (base : Atom) (scripts : Scripts) (l m : Units) (u : Unit) → past_space l ≡ Next u m → size m < size l → size l < suc k → (step : Option Step) → step_of_mark scripts (mark_of u.piece) ≡ step → Comes Atom (ReadsScripts c before base scripts l) (size l)
marked k has c before base scripts l m u p less h None s = comes_to _ l (omega arith) (scripts_end (ap (step_next scripts) p ∙ s))
marked k has c before base scripts l m u p less h (Some step) s = with_outcome (stepped k has c before base scripts l m u p (omega arith) step s) (omega arith) (λ o d. d)

scripts_total : (k : ℕ) → HasOutcomes k → (c : Context) (before : Before) (base : Atom) (scripts : Scripts) (l : Units) → size l < suc k → Comes Atom (ReadsScripts c before base scripts l) (size l)
scripts_total k has c before base scripts l h = elim (sees l) [
  | sees_unit u m p less ↦ marked k has c before base scripts l m u p less h (step_of_mark scripts (mark_of u.piece)) refl
  | sees_end at p ↦ comes_to _ l (omega arith) (scripts_end (ap (step_next scripts) p))
  | sees_stop r p ↦ comes_to _ l (omega arith) (scripts_end (ap (step_next scripts) p))
]

-- what begins with a script begins with a mark, which is not white space

has_mark : (change : Option Change) (mark : Option Mark) → start_of_mark change mark ≡ ScriptStart → (found : Mark) × (mark ≡ Some found)
has_mark (Some change) None e = cc
has_mark None None e = cc
has_mark change (Some mark) e = (mark, refl)

script_mark : (ending : Ending) (piece : Piece) → atom_start ending piece ≡ ScriptStart → (found : Mark) × (mark_of piece ≡ Some found)
script_mark (InDelimiters place) piece e = elim (cases_Bool (is_command (codes "middle") piece)) [
  | inl h ↦ absurd (cc (rw h at e))
  | inr h ↦ has_mark (change_by piece) (mark_of piece) (rw h at e)
]
script_mark WholeText piece e = has_mark (change_by piece) (mark_of piece) e
script_mark (InBraces place) piece e = has_mark (change_by piece) (mark_of piece) e
script_mark (InBrackets place) piece e = has_mark (change_by piece) (mark_of piece) e
script_mark (InDollars place) piece e = has_mark (change_by piece) (mark_of piece) e
script_mark (InCell end place) piece e = has_mark (change_by piece) (mark_of piece) e
script_mark (InLabel direction place) piece e = has_mark (change_by piece) (mark_of piece) e

mark_no_space : (piece : Piece) (mark : Mark) → mark_of piece ≡ Some mark → is_space_piece piece ≡ false
mark_no_space Space mark e = cc
mark_no_space Open mark e = refl
mark_no_space Close mark e = refl
mark_no_space (Command name) mark e = refl
mark_no_space (Character c) mark e = refl

-- a change leaves no more units than came after it

abbrev RestFits : ℕ → Rest → Type 0
RestFits k (GoesOnIn c row l) = size l ≤ k
RestFits k (NoRest r) = ⊤

below_fits : (rule : FractionRule) (c : Context) (row : Row) (place : ℕ) (l : Units) (upper : Option Upper) → RestFits (size l) (rest_below rule c row place l upper)
below_fits rule c row place l None = omega arith
below_fits rule c row place l (Some upper) = tt

in_fits : (name : List ℕ) (c : Context) (row : Row) (place k : ℕ) (l : Units) (color : Option Color) → size l ≤ k → RestFits k (rest_in name c row place l color)
in_fits name c row place k l None h = tt
in_fits name c row place k l (Some color) h = h

behind_name_fits : (c : Context) (row : Row) (place k : ℕ) (found : Found) → FoundFits k found → RestFits k (rest_behind_name c row place found)
behind_name_fits c row place k (Given name l) h = in_fits name c row place k l (color_of name) h
behind_name_fits c row place k (Missing r) h = tt

rest_fits : (change : Change) (c : Context) (row : Row) (place : ℕ) (l : Units) → RestFits (size l) (rest_of change c row place l)
rest_fits (ToAlphabet alphabet) c row place l = omega arith
rest_fits (ToStyle style) c row place l = omega arith
rest_fits (ToSize size) c row place l = omega arith
rest_fits ToColor c row place l = behind_name_fits c row place (size l) _ (scan_fits place l BeforeColor)
rest_fits (Divides rule) c row place l = below_fits rule c row place l row.under

-- no atom begins with a change
abbrev BeginsAtom : AtomStart → Type 0
BeginsAtom (ChangeStart change) = ⊥
BeginsAtom start = ⊤

begun_atom : (k : ℕ) → HasOutcomes k → (ending : Ending) (c : Context) (before : Before) (u : Unit) (l : Units) → size l < k → (start : AtomStart) → BeginsAtom start → atom_start ending u.piece ≡ start → Comes Atom (ReadsAtom ending c before u l) (size l)
begun_atom k has ending c before u l h (ChangeStart change) none s = absurd none
begun_atom k has ending c before u l h DividerStart some s = elim (has.of_rule (takes_delimiter (λ sign_text. gives (core (divider sign_text)))) l h) [
  | comes_to x n fits d ↦ comes_to x.atom n fits (divider_read s d)
  | is_refused r d ↦ is_refused r (divider_refused s d)
]
begun_atom k has ending c before u l h RuleStart some s =
    after (λ x n. ReadsScripts c before x.atom (no_scripts x.atom.kind x.limits) n) (has.of_rule (rule u.place c u.piece) l h) (omega arith) (λ x n fits. has.of_scripts c before x.atom (no_scripts x.atom.kind x.limits) n (omega arith)) (λ x n o. base_read s) (λ r. base_refused s)
begun_atom k has ending c before u l h ScriptStart some s =
    let (mark, e) = script_mark ending u.piece s in
    let stays : past_space (Next u l) ≡ Next u l = rw (mark_no_space u.piece mark e) refl in
    let step : step_of_mark (no_scripts empty_base.kind Beside) (mark_of u.piece) ≡ Some (step_of (no_scripts empty_base.kind Beside) None None mark) = rw e refl in
    with_outcome (stepped k has c before empty_base (no_scripts empty_base.kind Beside) (Next u l) l u stays h _ step) (omega arith) (λ o. on_empty_row s)

-- an atom that has an outcome, and then the atoms after it
atom_total : (k : ℕ) → HasOutcomes k → (ending : Ending) (c : Context) (row : Row) (l m : Units) (u : Unit) → past_space l ≡ Next u m → size m < size l → size l < suc k → ends ending u.piece ≡ false → (start : AtomStart) → BeginsAtom start → atom_start ending u.piece ≡ start → Comes Row (ReadsAtoms ending c row l) (size l)
atom_total k has ending c row l m u p less h s start some t = elim (begun_atom k has ending c row.before u m (omega arith) start some t) [
  | is_refused r d ↦ is_refused r (atom_refused p s d)
  | comes_to x n fits d ↦ with_outcome (has.of_atoms ending c (with_atom c.style row x) n (omega arith)) (omega arith) (λ o. atom_read p s d)
]

-- an atom or a change, and then what follows it
unit_total : (k : ℕ) → HasOutcomes k → (ending : Ending) (c : Context) (row : Row) (l m : Units) (u : Unit) → past_space l ≡ Next u m → size m < size l → size l < suc k → ends ending u.piece ≡ false → (start : AtomStart) → atom_start ending u.piece ≡ start → Comes Row (ReadsAtoms ending c row l) (size l)
unit_total k has ending c row l m u p less h s (ChangeStart change) t = rest_total (rest_of change c row u.place m) refl (rest_fits change c row u.place m)
  where
    rest_total : (rest : Rest) → rest_of change c row u.place m ≡ rest → RestFits (size m) rest → Comes Row (ReadsAtoms ending c row l) (size l)
    rest_total (GoesOnIn d xs n) e fits = with_outcome (has.of_atoms ending d xs n (omega arith)) (omega arith) (λ o. rest_read p s t e)
    rest_total (NoRest r) e fits = is_refused r (change_refused p s t e)
unit_total k has ending c row l m u p less h s DividerStart t = atom_total k has ending c row l m u p less h s DividerStart tt t
unit_total k has ending c row l m u p less h s ScriptStart t = atom_total k has ending c row l m u p less h s ScriptStart tt t
unit_total k has ending c row l m u p less h s RuleStart t = atom_total k has ending c row l m u p less h s RuleStart tt t

ended_total : (ending : Ending) (c : Context) (row : Row) (l : Units) (at : ℕ) → past_space l ≡ End at → (refusal : Option Refusal) → unended ending ≡ refusal → Comes Row (ReadsAtoms ending c row l) (size l)
ended_total ending c row l at p None e = comes_to (finished c.style row) (End at) (omega arith) (text_ends p e)
ended_total ending c row l at p (Some r) e = is_refused r (never_ended p e)

size-left : (ending : Ending) (l m : Units) (u : Unit) → size m < size l → size (left_behind ending u m) ≤ size l
size-left WholeText l m u h = omega arith
size-left (InBraces place) l m u h = omega arith
size-left (InBrackets place) l m u h = omega arith
size-left (InDollars place) l m u h = omega arith
size-left (InDelimiters place) l m u h = omega arith
size-left (InCell end place) l m u h = omega arith
size-left (InLabel direction place) l m u h = omega arith

atoms_total : (k : ℕ) → HasOutcomes k → (ending : Ending) (c : Context) (row : Row) (l : Units) → size l < suc k → Comes Row (ReadsAtoms ending c row l) (size l)
atoms_total k has ending c row l h = elim (sees l) [
  | sees_end at p ↦ ended_total ending c row l at p (unended ending) refl
  | sees_stop r p ↦ is_refused r (atoms_stopped p)
  | sees_unit u m p less ↦ elim (cases_Bool (ends ending u.piece)) [
    | inl s ↦ comes_to (finished c.style row) (left_behind ending u m) (size-left ending l m u less) (atoms_end p s)
    | inr s ↦ unit_total k has ending c row l m u p less h s (atom_start ending u.piece) refl
  ]
]

-- atoms of a cell leave the unit that ends it, or the end of the text
data LeavesEnd (n : Units) : Type 0 where
  leaves_unit : (u : Unit) (m : Units) → past_space n ≡ Next u m → LeavesEnd n
  leaves_end : (at : ℕ) → past_space n ≡ End at → LeavesEnd n

left_in_cell : {end : TableEnd} {place : ℕ} {c : Context} {row other : Row} {l n : Units} → ReadsAtoms (InCell end place) c row l (Read other n) → LeavesEnd n
left_in_cell (text_ends {at = at} p s) = leaves_end at refl
left_in_cell (atoms_end {l = l} {m = m} {u = u} p s) = leaves_unit u m (next_stays l u m p)
left_in_cell (atom_read p s d ds) = left_in_cell ds
left_in_cell (rest_read p s t r d) = left_in_cell d

-- rows

behind_cell_total : (k : ℕ) → HasOutcomes k → (end : TableEnd) (place : ℕ) (columns : Columns) (c : Context) (rows cells cell : List Element) (l m : Units) (u : Unit) → past_space l ≡ Next u m → size m < size l → size m < k → (ends : CellEnd) → cell_end u.piece ≡ ends → RowsCome (ReadsBehindCell end place columns c rows cells cell l) (size l)
behind_cell_total k has end place columns c rows cells cell l m u p less h PartsCells s =
    with_rows (has.of_rows end place columns c rows (row_element cell ∷ cells) m h) (omega arith) (λ o. next_cell p s)
behind_cell_total k has end place columns c rows cells cell l m u p less h BeginsArrow s = elim (find_next (sign_of_arrow ∷ []) m) [
  | finds sign n f fits ↦ elim (has.of_rule (arrow_rule u.place c (arrow_of sign)) n (omega arith)) [
    | comes_to x j left d ↦
        with_rows (has.of_rows end place columns c rows (x.atom.element ∷ before_arrow (fills_cell (arrow_of sign) (length cells) cell) cell cells) j (omega arith)) (omega arith) (λ o. arrow_read p s f d)
    | is_refused r d ↦ rows_none r (arrow_refused p s f d)
  ]
  | finds_none f ↦ rows_none _ (no_arrow p s f)
]
behind_cell_total k has end place columns c rows cells cell l m u p less h EndsRow s =
    let short = size-past_break m in
    with_rows (has.of_rows end place columns c (lined (line_next (past_gap m)) (a_row columns (gap_at m) (row_element cell) cells ∷ rows)) [] (past_break m) (omega arith)) (omega arith) (λ o. next_row p s)
behind_cell_total k has end place columns c rows cells cell l m u p less h EndsTable s =
    rows_come (with_last columns rows cells cell) l m u p less (table_ends p s)

-- there are fewer units after the next one
size-next : (l m : Units) (u : Unit) → past_space l ≡ Next u m → size m < size l
size-next l m u p = (let fewer = size-past_space l in let same : size (past_space l) ≡ suc (size m) = ap size p in omega arith)

rows_total : (k : ℕ) → HasOutcomes k → (end : TableEnd) (place : ℕ) (columns : Columns) (c : Context) (rows cells : List Element) (l : Units) → size l < suc k → RowsCome (ReadsRows end place columns c rows cells l) (size l)
rows_total k has end place columns c rows cells l h = elim (atoms_total k has (InCell end place) c (begun_cell columns (length cells)) l h) [
  | comes_to row n fits d ↦ elim (left_in_cell d) [
    | leaves_unit u m p ↦ (let less = size-next n m u p in
        with_rows (behind_cell_total k has end place columns c rows cells (cell_of row) n m u p less (omega arith) (cell_end u.piece) refl) fits (λ o. cell_read d))
    | leaves_end at p ↦ rows_come_to_end (with_last columns rows cells (cell_of row)) n at p (cell_read d (text_ends_table p))
  ]
  | is_refused r d ↦ rows_none r (cell_refused d)
]

-- so a rule has an outcome

after_tests : (l : Units) (tests : List (Piece → Option (List ℕ))) (then : List ℕ → Rule) (otherwise : Rule) → Finds tests l → ((texts : List ℕ) (m : Units) → size m ≤ size l → Comes Core (ReadsRule (then texts) m) (size m)) → Comes Core (ReadsRule otherwise l) (size l) → Comes Core (ReadsRule (takes_if tests then otherwise) l) (size l)
after_tests l tests then otherwise (finds texts m f fits) first second = with_outcome (first texts m fits) fits (λ o. units_taken f)
after_tests l tests then otherwise (finds_none f) first second = with_outcome second (omega arith) (λ o. units_missing f)

after_look : (l : Units) (test : Piece → Bool) (then otherwise : Rule) → Comes Core (ReadsRule then l) (size l) → Comes Core (ReadsRule otherwise l) (size l) → Comes Core (ReadsRule (if_follows test then otherwise) l) (size l)
after_look l test then otherwise first second = elim (cases_Bool (follows test l)) [
  | inl f ↦ with_outcome first (omega arith) (λ o. unit_follows f)
  | inr f ↦ with_outcome second (omega arith) (λ o. no_unit_follows f)
]

after_delimiter : (l : Units) (then : List ℕ → Rule) → Finds (delimiter_of ∷ []) l → ((texts : List ℕ) (m : Units) → size m ≤ size l → Comes Core (ReadsRule (then texts) m) (size m)) → Comes Core (ReadsRule (takes_delimiter then) l) (size l)
after_delimiter l then (finds texts m f fits) first = with_outcome (first texts m fits) fits (λ o. delimiter_taken f)
after_delimiter l then (finds_none f) first = is_refused _ (delimiter_missing f)

after_core : (k : ℕ) → HasOutcomes k → (place : ℕ) (c : Context) (then : Core → Rule) (l : Units) → size l < suc k → ((x : Core) (m : Units) → size m ≤ size l → Comes Core (ReadsRule (then x) m) (size m)) → Comes Core (ReadsRule (reads_core place c then) l) (size l)
after_core k has place c then l h follow = elim (sees l) [
  | sees_unit u m p less ↦ after (λ x n. ReadsRule (then x) n) (has.of_rule (rule u.place c u.piece) m (omega arith)) (omega arith) (λ x n fits. follow x n (omega arith)) (λ x n o. core_read p) (λ r. core_refused p)
  | sees_end at p ↦ is_refused _ (core_missing p)
  | sees_stop r p ↦ is_refused r (core_stopped p)
]

after_found : (spot : Spot) (place : ℕ) (then : List ℕ → Rule) (l : Units) (found : Found) → scan place l spot ≡ found → FoundFits (size l) found → ((text : List ℕ) (m : Units) → size m ≤ size l → Comes Core (ReadsRule (then text) m) (size m)) → Comes Core (ReadsRule (takes_found spot place then) l) (size l)
after_found spot place then l (Given text m) e fits follow = with_outcome (follow text m fits) fits (λ o. found_taken e)
after_found spot place then l (Missing r) e fits follow = is_refused r (found_refused e)

after_rows : {end : TableEnd} {place : ℕ} {columns : Columns} {c : Context} (then : Lines → ℕ → Rule) (l : Units) → RowsCome (ReadsRows end place columns c (lined (line_next l) []) [] (past BeforeRow l)) (size l) → ((lines : Lines) (at : ℕ) (m : Units) → size m ≤ size l → Comes Core (ReadsRule (then lines at) m) (size m)) → Comes Core (ReadsRule (reads_rows end place columns c then) l) (size l)
after_rows then l (rows_come lines j m u p fits d) follow = with_outcome (follow lines u.place m (omega arith)) (omega arith) (λ o. rows_read d p)
after_rows then l (rows_come_to_end lines j at p d) follow = with_outcome (follow lines at (End at) (omega arith)) (omega arith) (λ o. rows_to_end d p)
after_rows then l (rows_none r d) follow = is_refused r (rows_refused d)

rule_total : (k : ℕ) → HasOutcomes k → (r : Rule) (l : Units) → size l < suc k → Comes Core (ReadsRule r l) (size l)
rule_total k has (gives x) l h = comes_to x l (omega arith) rule_gives
rule_total k has (refuses r) l h = is_refused r rule_refuses
rule_total k has (reads_operand place c then) l h =
    after (λ xs m. ReadsRule (then xs) m) (operand_total k has place c l h) (omega arith) (λ xs m fits. rule_total k has (then xs) m (omega arith)) (λ xs m o. operand_read) (λ r. operand_refused)
rule_total k has (reads_core place c then) l h = after_core k has place c then l h (λ x m fits. rule_total k has (then x) m (omega arith))
rule_total k has (reads_atoms ending c then) l h =
    after (λ xs m. ReadsRule (then xs) m) (atoms_total k has ending c (begun ending) l h) (omega arith) (λ xs m fits. rule_total k has (then xs) m (omega arith)) (λ xs m o. atoms_read) (λ r. atoms_refused)
rule_total k has (reads_words place c then) l h =
    let less = size-past_space l in after (λ ws m. ReadsRule (then ws) m) (word_total k has place c no_words (past_space l) (omega arith)) (omega arith) (λ ws m fits. rule_total k has (then ws) m (omega arith)) (λ ws m o. words_read) (λ r. words_refused)
rule_total k has (takes_if tests then otherwise) l h =
    after_tests l tests then otherwise (find_next tests l) (λ texts m fits. rule_total k has (then texts) m (omega arith)) (rule_total k has otherwise l h)
rule_total k has (if_follows test then otherwise) l h = after_look l test then otherwise (rule_total k has then l h) (rule_total k has otherwise l h)
rule_total k has (takes_digits then) l h =
    let less = size-digits_next l in with_outcome (rule_total k has (then (digits_next l).0) (digits_next l).1 (omega arith)) (omega arith) (λ o. digits_taken)
rule_total k has (takes_found spot place then) l h =
    after_found spot place then l (scan place l spot) refl (scan_fits place l spot) (λ text m fits. rule_total k has (then text) m (omega arith))
rule_total k has (passes_over spot then) l h =
    let less = size-past spot l in with_outcome (rule_total k has then (past spot l) (omega arith)) less (λ o. passed_over)
rule_total k has (reads_rows end place columns c then) l h =
    let less = size-past BeforeRow l in
    after_rows then l (with_rows (rows_total k has end place columns c (lined (line_next l) []) [] (past BeforeRow l) (omega arith)) less (λ o d. d)) (λ lines at m fits. rule_total k has (then lines at) m (omega arith))
rule_total k has (takes_delimiter then) l h = after_delimiter l then (find_next (delimiter_of ∷ []) l) (λ texts m fits. rule_total k has (then texts) m (omega arith))

-- so there is an outcome, however many units there are
outcomes : (k : ℕ) → HasOutcomes k
outcomes zero = record {
  of_rule = λ r l h. absurd (omega arith);
  of_operand = λ place c l h. absurd (omega arith);
  of_scripts = λ c before base scripts l h. absurd (omega arith);
  of_atoms = λ ending c row l h. absurd (omega arith);
  of_rows = λ end place columns c rows cells l h. absurd (omega arith);
  of_word = λ place c ws l h. absurd (omega arith);
  of_words = λ place c ws l h. absurd (omega arith);
}
outcomes (suc k) = record {
  of_rule = rule_total k (outcomes k);
  of_operand = operand_total k (outcomes k);
  of_scripts = scripts_total k (outcomes k);
  of_atoms = atoms_total k (outcomes k);
  of_rows = rows_total k (outcomes k);
  of_word = word_total k (outcomes k);
  of_words = words_total k (outcomes k);
}

found_outcome : {A : Type 0} {reads : Outcome A → Type 0} {k : ℕ} → Comes A reads k → (o : Outcome A) × reads o
found_outcome (comes_to x m fits d) = (Read x m, d)
found_outcome (is_refused r d) = (Refused r, d)

-- a rule has an outcome
pub rule_outcome : (r : Rule) (l : Units) → (o : Outcome Core) × ReadsRule r l o
rule_outcome r l = found_outcome ((outcomes (suc (size l))).of_rule r l (omega arith))

-- the law
pub has_one_outcome : (ending : Ending) (c : Context) (row : Row) (l : Units) → HasOneOutcome ending c row l
has_one_outcome ending c row l = record {
  some = found_outcome ((outcomes (suc (size l))).of_atoms ending c row l (omega arith));
  one = λ o p d e. one_atoms d e;
}
