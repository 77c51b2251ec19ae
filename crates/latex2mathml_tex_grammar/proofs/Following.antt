-- What follows one outcome of units also follows another one, where the two are the same.
use Rattle.std.proofs.Common.{◌≡◌, ℕ, ℤ, Option, Some, None, length, refl, sym, ap, subst, List, [], ◌∷◌}
use Rattle.latex2mathml_elements.specs.Element.{Element}
use Rattle.latex2mathml_elements.specs.Columns.{Columns}
use Rattle.latex2mathml_tex_grammar.specs.{Atoms.Atom, Atoms.Before, Makes.Core, Makes.Scripts, Makes.no_scripts, Rows.Row, Rows.Operand, Rows.empty_row, Rows.with_atom}
use Rattle.latex2mathml_tex_grammar.specs.Reading.{Outcome, Read, ReadsRule, ReadsOperand, ReadsScripts, ReadsAtom, divider_read, divider_refused, on_empty_row, base_read, base_refused, ReadsAtoms, ReadsWord, ReadsWords, ReadsRows, ReadsBehindCell}
use Rattle.latex2mathml_tex_grammar.specs.Rests.{Rest, GoesOnIn, NoRest, rest_of}
use Rattle.latex2mathml_tex_grammar.specs.Diagrams.{arrow_of, before_arrow, fills_cell, sign_of_arrow}
use Rattle.latex2mathml_tex_grammar.specs.Rules.{Context, Ending, InBraces, Rule, rule, arrow_rule, in_size, in_words, TableEnd}
use Rattle.latex2mathml_tex_grammar.specs.{Meaning.Change, Starts.atom_start, Starts.ChangeStart, Starts.step_next, Starts.step_of_mark, Starts.mark_of, Starts.Step, Starts.GoesOn, Starts.TakesOperand, Starts.Forbidden, Refusal.Kind, Refusal.Refusal, Refusal.refusal_at, Symbols.Alphabet, Symbols.TextSize, Words.Words, Words.WordRule, Words.TakesWords, Words.size_after, Scanning.Found, Scanning.Given, Starts.CellEnd, Next.next_are, Next.past_space, RowGaps.gap_at, RowLines.line_next, RowLines.lined, Scanning.past_break, Scanning.past_gap, Tables.Lines, Tables.cell_of}
use Rattle.latex2mathml_tex_grammar.specs.Units.{Unit, Units, Next, End}
use Rattle.latex2mathml_tex_grammar.specs.Ligatures.{joined}
use Rattle.latex2mathml_tex_grammar.specs.Words.{shown_character, with_word}

-- what holds of the unit that comes next, and of the units after it, holds whichever way it was found
pub next_is : (P : Unit → Units → Type 0) {w m n : Units} {u v : Unit} → w ≡ Next u m → w ≡ Next v n → P v n → P u m
next_is P {w} {m} {n} {u} {v} p q e =
    let same : v ≡ u = cc in
    let rest : n ≡ m = cc in
    subst (λ x. P x m) same (subst (λ k. P v k) rest e)

-- the same holds of what follows a change

pub one_rest : (ending : Ending) (c : Context) (row : Row) {w m n : Units} {u v : Unit} {a b : Change} {x y : Rest} → w ≡ Next u m → w ≡ Next v n → atom_start ending u.piece ≡ ChangeStart a → atom_start ending v.piece ≡ ChangeStart b → rest_of a c row u.place m ≡ x → rest_of b c row v.place n ≡ y → x ≡ y
one_rest ending c row {m = m} {n = n} {u = u} {v = v} {a = a} {b = b} p q s t d e =
    let unit : u ≡ v = cc in
    let left : m ≡ n = cc in
    let same : a ≡ b = cc in
    cc

abbrev pub ReadsRest : Ending → Outcome Row → Rest → Type 0
ReadsRest ending o (GoesOnIn c row l) = ReadsAtoms ending c row l o
ReadsRest ending o (NoRest r) = ⊥

pub rest_is : {ending : Ending} {m n : Units} {c d : Context} {xs ys : Row} {o : Outcome Row} → GoesOnIn c xs m ≡ GoesOnIn d ys n → ReadsAtoms ending d ys n o → ReadsAtoms ending c xs m o
rest_is {ending} {o = o} e r = subst (ReadsRest ending o) (sym e) r

pub refused_alike : {r q : Refusal} → NoRest r ≡ NoRest q → r ≡ q
refused_alike e = cc

-- no atom begins with a change

pub no_atom : {ending : Ending} {c : Context} {before : Before} {u : Unit} {l : Units} {change : Change} {o : Outcome Atom} → ReadsAtom ending c before u l o → atom_start ending u.piece ≡ ChangeStart change → ⊥
no_atom (divider_read s d) t = cc
no_atom (divider_refused s d) t = cc
no_atom (on_empty_row s d) t = cc
no_atom (base_read s d ds) t = cc
no_atom (base_refused s d) t = cc

pub atom_or_change : {ending : Ending} {c : Context} {before : Before} {w m n : Units} {u v : Unit} {change : Change} {o : Outcome Atom} → w ≡ Next u m → w ≡ Next v n → ReadsAtom ending c before u m o → atom_start ending v.piece ≡ ChangeStart change → ⊥
atom_or_change {ending} {u = u} {v = v} {change = change} p q d t =
    let same : v ≡ u = cc in
    no_atom d (subst (λ x. atom_start ending x.piece ≡ ChangeStart change) same t)

-- what follows one outcome also follows the other, which is the same
pub moved : {A : Type 0} (P : A → Units → Type 0) {x y : A} {m n : Units} → Read x m ≡ Read y n → P y n → P x m
moved P {x} {y} {m} {n} e d =
    let same : y ≡ x = cc in
    let rest : n ≡ m = cc in
    subst (λ z. P z m) same (subst (λ k. P y k) rest d)

pub moved_some : {A : Type 0} (P : A → Units → Type 0) {found : Option (A × Units)} {x y : A} {m n : Units} → found ≡ Some (x, m) → found ≡ Some (y, n) → P y n → P x m
moved_some {A} P {found} {x} {y} {m} {n} p q d =
    let both : A × Units = (x, m) in
    let others : A × Units = (y, n) in
    let same : others ≡ both = cc in
    subst (λ t. P t.0 t.1) same d

-- the same holds of rules, of operands and of atoms that begin with the unit

pub core_is : (c : Context) {w m n : Units} {u v : Unit} {o : Outcome Core} → w ≡ Next u m → w ≡ Next v n → ReadsRule (rule v.place c v.piece) n o → ReadsRule (rule u.place c u.piece) m o
core_is c {o = o} p q e = next_is (λ v n. ReadsRule (rule v.place c v.piece) n o) p q e

pub group_is : {c : Context} {w m n : Units} {u v : Unit} {o : Outcome Row} → w ≡ Next u m → w ≡ Next v n → ReadsAtoms (InBraces v.place) c empty_row n o → ReadsAtoms (InBraces u.place) c empty_row m o
group_is {c} {o = o} p q e = next_is (λ v n. ReadsAtoms (InBraces v.place) c empty_row n o) p q e

pub operand_is : {c : Context} {w m n : Units} {u v : Unit} {o : Outcome Operand} → w ≡ Next u m → w ≡ Next v n → ReadsOperand v.place c n o → ReadsOperand u.place c m o
operand_is {c} {o = o} p q e = next_is (λ v n. ReadsOperand v.place c n o) p q e

pub atom_is : {ending : Ending} {c : Context} {before : Before} {w m n : Units} {u v : Unit} {o : Outcome Atom} → w ≡ Next u m → w ≡ Next v n → ReadsAtom ending c before v n o → ReadsAtom ending c before u m o
atom_is {ending} {c} {before} {o = o} p q e = next_is (λ v n. ReadsAtom ending c before v n o) p q e

-- the same holds of what follows an outcome

pub rule_moved : {A : Type 0} (then : A → Rule) {x y : A} {m n : Units} {o : Outcome Core} → Read x m ≡ Read y n → ReadsRule (then y) n o → ReadsRule (then x) m o
rule_moved then {o = o} e d = moved (λ x m. ReadsRule (then x) m o) e d

pub taken_moved : {A : Type 0} (then : A → Rule) {found : Option (A × Units)} {x y : A} {m n : Units} {o : Outcome Core} → found ≡ Some (x, m) → found ≡ Some (y, n) → ReadsRule (then y) n o → ReadsRule (then x) m o
taken_moved then {o = o} p q d = moved_some (λ x m. ReadsRule (then x) m o) p q d

pub found_moved : (then : List ℕ → Rule) {found : Found} {x y : List ℕ} {m n : Units} {o : Outcome Core} → found ≡ Given x m → found ≡ Given y n → ReadsRule (then y) n o → ReadsRule (then x) m o
found_moved then {x = x} {y = y} {m = m} {n = n} {o = o} p q d =
    let same : y ≡ x = cc in
    let rest : n ≡ m = cc in
    subst (λ z. ReadsRule (then z) m o) same (subst (λ k. ReadsRule (then y) k o) rest d)

pub rows_moved : (then : Lines → ℕ → Rule) {x y : Lines} {u v : Unit} {j k m n : Units} {o : Outcome Core} → Read x j ≡ Read y k → past_space j ≡ Next u m → past_space k ≡ Next v n → ReadsRule (then y v.place) n o → ReadsRule (then x u.place) m o
rows_moved then {x} {y} {u} {v} {j} {k} {m} {n} {o} e p q d =
    let same : y ≡ x = cc in
    let left : k ≡ j = cc in
    subst (λ z. ReadsRule (then z u.place) m o) same (next_is (λ v n. ReadsRule (then y v.place) n o) p (subst (λ k. past_space k ≡ Next v n) left q) d)

pub rows_moved_to_end : (then : Lines → ℕ → Rule) {x y : Lines} {a b : ℕ} {j k : Units} {o : Outcome Core} → Read x j ≡ Read y k → past_space j ≡ End a → past_space k ≡ End b → ReadsRule (then y b) (End b) o → ReadsRule (then x a) (End a) o
rows_moved_to_end then {x} {y} {a} {b} {j} {k} {o} e p q d =
    let same : y ≡ x = cc in
    let at : b ≡ a = cc in
    subst (λ n. ReadsRule (then x n) (End n) o) at (subst (λ z. ReadsRule (then z b) (End b) o) same d)

pub next_row_next : {end : TableEnd} {place : ℕ} {columns : Columns} {c : Context} {cells : List Element} (rows : ℤ → List Element) {w m n : Units} {u v : Unit} {o : Outcome Lines} → w ≡ Next u m → w ≡ Next v n → ReadsRows end place columns c (lined (line_next (past_gap n)) (rows (gap_at n))) cells (past_break n) o → ReadsRows end place columns c (lined (line_next (past_gap m)) (rows (gap_at m))) cells (past_break m) o
next_row_next {end} {place} {columns} {c} {cells} rows {o = o} p q d =
    next_is (λ u m. ReadsRows end place columns c (lined (line_next (past_gap m)) (rows (gap_at m))) cells (past_break m) o) p q d

pub rows_next : {end : TableEnd} {place : ℕ} {columns : Columns} {c : Context} {rows cells : List Element} (behind : Units → Units) {w m n : Units} {u v : Unit} {o : Outcome Lines} → w ≡ Next u m → w ≡ Next v n → ReadsRows end place columns c rows cells (behind n) o → ReadsRows end place columns c rows cells (behind m) o
rows_next {end} {place} {columns} {c} {rows} {cells} behind {o = o} p q d = next_is (λ u m. ReadsRows end place columns c rows cells (behind m) o) p q d

-- what ends a cell does one thing
pub one_end : (end : Unit → CellEnd) {w m n : Units} {u v : Unit} {a b : CellEnd} → w ≡ Next u m → w ≡ Next v n → end u ≡ a → end v ≡ b → a ≡ b
one_end end {u = u} {v = v} p q s t = (let same : u ≡ v = cc in cc)

-- one arrow follows an at sign
module _ {w m n : Units} {u v : Unit} (p : w ≡ Next u m) (q : w ≡ Next v n) where
  pub one_sign : {sign other : List ℕ} {k j : Units} → next_are (sign_of_arrow ∷ []) m ≡ Some (sign, k) → next_are (sign_of_arrow ∷ []) n ≡ Some (other, j) → sign ≡ other
  one_sign {sign} {other} {k} {j} f g =
      let left : m ≡ n = cc in
      let one : List ℕ × Units = (sign, k) in
      let two : List ℕ × Units = (other, j) in
      let same : one ≡ two = cc in
      ap (λ t. t.0) same

  pub sign_or_none : {sign : List ℕ} {k : Units} → next_are (sign_of_arrow ∷ []) m ≡ Some (sign, k) → next_are (sign_of_arrow ∷ []) n ≡ None → ⊥
  sign_or_none f g = (let left : m ≡ n = cc in cc)

  pub arrow_is : (c : Context) {sign other : List ℕ} {k j : Units} {o : Outcome Core} → next_are (sign_of_arrow ∷ []) m ≡ Some (sign, k) → next_are (sign_of_arrow ∷ []) n ≡ Some (other, j) → ReadsRule (arrow_rule v.place c (arrow_of other)) j o → ReadsRule (arrow_rule u.place c (arrow_of sign)) k o
  arrow_is c {other = other} {j = j} {o = o} f g d =
      let unit : v ≡ u = cc in
      let left : n ≡ m = cc in
      moved_some (λ sign k. ReadsRule (arrow_rule u.place c (arrow_of sign)) k o) f (subst (λ n. next_are (sign_of_arrow ∷ []) n ≡ Some (other, j)) left g) (subst (λ v. ReadsRule (arrow_rule v.place c (arrow_of other)) j o) unit d)

pub arrow_moved : {end : TableEnd} {place : ℕ} {columns : Columns} {c : Context} {rows : List Element} (cells cell : List Element) {sign other : List ℕ} {x y : Core} {m n : Units} {o : Outcome Lines} → sign ≡ other → Read x m ≡ Read y n → ReadsRows end place columns c rows (y.atom.element ∷ before_arrow (fills_cell (arrow_of other) (length cells) cell) cell cells) n o → ReadsRows end place columns c rows (x.atom.element ∷ before_arrow (fills_cell (arrow_of sign) (length cells) cell) cell cells) m o
arrow_moved {end} {place} {columns} {c} {rows} cells cell {sign} {y = y} {n = n} {o = o} same e d =
    moved (λ x m. ReadsRows end place columns c rows (x.atom.element ∷ before_arrow (fills_cell (arrow_of sign) (length cells) cell) cell cells) m o) e
    (subst (λ sign. ReadsRows end place columns c rows (y.atom.element ∷ before_arrow (fills_cell (arrow_of sign) (length cells) cell) cell cells) n o) (sym same) d)

pub cell_moved : {end : TableEnd} {place : ℕ} {columns : Columns} {c : Context} {rows cells : List Element} {x y : Row} {m n : Units} {o : Outcome Lines} → Read x m ≡ Read y n → ReadsBehindCell end place columns c rows cells (cell_of y) n o → ReadsBehindCell end place columns c rows cells (cell_of x) m o
cell_moved {end} {place} {columns} {c} {rows} {cells} {o = o} e d = moved (λ x m. ReadsBehindCell end place columns c rows cells (cell_of x) m o) e d

pub base_moved : {c : Context} {before : Before} {x y : Core} {m n : Units} {o : Outcome Atom} → Read x m ≡ Read y n → ReadsScripts c before y.atom (no_scripts y.atom.kind y.limits) n o → ReadsScripts c before x.atom (no_scripts x.atom.kind x.limits) m o
base_moved {c} {before} {o = o} e d = moved (λ x m. ReadsScripts c before x.atom (no_scripts x.atom.kind x.limits) m o) e d

pub atoms_moved : {ending : Ending} {c : Context} (row : Row) {x y : Atom} {m n : Units} {o : Outcome Row} → Read x m ≡ Read y n → ReadsAtoms ending c (with_atom c.style row y) n o → ReadsAtoms ending c (with_atom c.style row x) m o
atoms_moved {ending} {c} row {o = o} e d = moved (λ x m. ReadsAtoms ending c (with_atom c.style row x) m o) e d

pub words_moved : {place : ℕ} {c : Context} {ws vs : Words} {m n : Units} {o : Outcome Words} → Read ws m ≡ Read vs n → ReadsWords place c vs n o → ReadsWords place c ws m o
words_moved {place} {c} {o = o} e d = moved (λ ws m. ReadsWords place c ws m o) e d

-- the mark that comes next has one step

pub one_step : (step : Unit → Option Step) {w m n : Units} {u v : Unit} {a b : Step} → w ≡ Next u m → w ≡ Next v n → step u ≡ Some a → step v ≡ Some b → a ≡ b
one_step step {u = u} {v = v} p q s t = (let same : u ≡ v = cc in cc)

pub goes_on : (step : Unit → Option Step) (P : Scripts → Units → Type 0) {w m n : Units} {u v : Unit} {a b : Scripts} → w ≡ Next u m → w ≡ Next v n → step u ≡ Some (GoesOn a) → step v ≡ Some (GoesOn b) → P b n → P a m
goes_on step P {m = m} {n = n} {a = a} {b = b} p q s t e =
    let same : b ≡ a = cc (one_step step p q s t) in
    let rest : n ≡ m = cc in
    subst (λ x. P x m) same (subst (λ k. P b k) rest e)

pub same_operand_step : (step : Unit → Option Step) (P : (Operand → Scripts) → Type 0) {w m n : Units} {u v : Unit} {f g : Operand → Scripts} → w ≡ Next u m → w ≡ Next v n → step u ≡ Some (TakesOperand f) → step v ≡ Some (TakesOperand g) → P g → P f
same_operand_step step P {f = f} {g = g} p q s t e = (let same : g ≡ f = cc (one_step step p q s t) in subst P same e)

pub same_second : (step : Unit → Option Step) {w m n : Units} {u v : Unit} {a b : Kind} → w ≡ Next u m → w ≡ Next v n → step u ≡ Some (Forbidden a) → step v ≡ Some (Forbidden b) → refusal_at a u.place ≡ refusal_at b v.place
same_second step {u = u} {v = v} {a = a} {b = b} p q s t =
    let same : u ≡ v = cc in
    let kind : a ≡ b = cc (one_step step p q s t) in
    rw (same, kind) refl

-- no step is made where the scripts end
pub ended_there : (scripts : Scripts) {w m : Units} {u : Unit} {a : Step} → w ≡ Next u m → step_next scripts w ≡ None → step_of_mark scripts (mark_of u.piece) ≡ Some a → ⊥
ended_there scripts p s t = cc (ap (step_next scripts) p)

pub same_alphabet : (P : Option Alphabet → Type 0) {r : WordRule} {a b : Option Alphabet} → r ≡ TakesWords a → r ≡ TakesWords b → P b → P a
same_alphabet P {r} {a} {b} s t e = (let same : b ≡ a = cc in subst P same e)

pub word_is : {place : ℕ} (c : Context) {r : WordRule} {a b : Option Alphabet} {ws : Words} {l : Units} {o : Outcome Words} → r ≡ TakesWords a → r ≡ TakesWords b → ReadsWord place (in_words c b) ws l o → ReadsWord place (in_words c a) ws l o
word_is {place} c {ws = ws} {l = l} {o = o} s t e = same_alphabet (λ a. ReadsWord place (in_words c a) ws l o) s t e

-- a change of size in words is one
pub words_resized_to : {place : ℕ} (c : Context) (r : WordRule) {a b : TextSize} {ws : Words} {l : Units} {o : Outcome Words} → size_after r ≡ Some a → size_after r ≡ Some b → ReadsWords place (in_size c b) ws l o → ReadsWords place (in_size c a) ws l o
words_resized_to {place} c r {a = a} {b = b} {ws = ws} {l = l} {o = o} s t d =
    let same : b ≡ a = cc in
    subst (λ size. ReadsWords place (in_size c size) ws l o) same d

-- and so is what begins a ligature
pub ligature_moved : {place : ℕ} (c : Context) (ws : Words) (l : Units) {found : Option ℕ} {first other : ℕ} {o : Outcome Words} → found ≡ Some first → found ≡ Some other
    → ReadsWords place c (with_word ws (shown_character c.alphabet (joined other l).0)) (joined other l).1 o → ReadsWords place c (with_word ws (shown_character c.alphabet (joined first l).0)) (joined first l).1 o
ligature_moved {place} c ws l {first = first} {other = other} {o = o} j k d =
    let same : other ≡ first = cc in
    subst (λ k. ReadsWords place c (with_word ws (shown_character c.alphabet (joined k l).0)) (joined k l).1 o) same d

pub scripts_go_on : (step : Unit → Option Step) {c : Context} {before : Before} {base : Atom} {w m n : Units} {u v : Unit} {a b : Scripts} {o : Outcome Atom} → w ≡ Next u m → w ≡ Next v n → step u ≡ Some (GoesOn a) → step v ≡ Some (GoesOn b) → ReadsScripts c before base b n o → ReadsScripts c before base a m o
scripts_go_on step {c} {before} {base} {o = o} p q s t e = goes_on step (λ x n. ReadsScripts c before base x n o) p q s t e

pub script_moved : (step : Unit → Option Step) {c : Context} {before : Before} {base : Atom} {w m n k j : Units} {u v : Unit} {f g : Operand → Scripts} {x y : Operand} {o : Outcome Atom} → w ≡ Next u m → w ≡ Next v n → step u ≡ Some (TakesOperand f) → step v ≡ Some (TakesOperand g) → Read x k ≡ Read y j → ReadsScripts c before base (g y) j o → ReadsScripts c before base (f x) k o
script_moved step {c} {before} {base} {j = j} {f = f} {y = y} {o = o} p q s t e d =
    moved (λ x k. ReadsScripts c before base (f x) k o) e (same_operand_step step (λ h. ReadsScripts c before base (h y) j o) p q s t d)
