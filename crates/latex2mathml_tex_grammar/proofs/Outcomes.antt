-- What it means that units have an outcome, and how many of them are left.
use Rattle.std.proofs.Common.{ℕ, suc, ◌-◌, ◌<◌, ◌≤◌, ◌≡◌, Bool, true, false, inl, inr, List, [], ◌∷◌, ◌++◌, Option, Some, None, refl, ◌∙◌, arith}
use Rattle.std.specs.Bool.{⊤}
use Rattle.latex2mathml_elements.specs.Element.{Element}
use Rattle.std.proofs.lemmas.Bool.{cases_Bool}
use Rattle.std.specs.Bool.{⊤}
use Rattle.latex2mathml_tex_grammar.specs.{Atoms.Atom, Atoms.Before, Rows.Row, Rows.Operand, Makes.Core, Makes.Scripts, Tables.Lines}
use Rattle.latex2mathml_tex_grammar.specs.Next.{is_space_piece, past_space, next_are, digits_next, digits_here}
use Rattle.latex2mathml_tex_grammar.specs.Reading.{Outcome, Read, Refused, ReadsRule, ReadsOperand, ReadsScripts, ReadsAtoms, ReadsWord, ReadsWords, ReadsRows}
use Rattle.latex2mathml_tex_grammar.specs.Refusal.{Refusal}
use Rattle.latex2mathml_tex_grammar.specs.Rules.{Context, Ending, Rule, a_digit, TableEnd}
use Rattle.latex2mathml_elements.specs.Columns.{Columns}
use Rattle.latex2mathml_tex_grammar.specs.Scanning.{Spot, BeforeStar, BeforeLength, BeforeRow, Deed, Passes, Adds, Ends, Leaves, Misses, Refuses, deed, done, may_end, found_at_end, with_character, Found, Given, Missing, scan, behind_found, past, past_break}
use Rattle.latex2mathml_tex_grammar.specs.Units.{Piece, Unit, Units, Next, End, Stop}
use Rattle.latex2mathml_tex_grammar.specs.Words.{Words}
use Rattle.latex2mathml_tex_grammar.specs.Macros.{unit_count as size}

-- there is an outcome, which leaves at most k units
pub data Comes (A : Type 0) (reads : Outcome A → Type 0) (k : ℕ) : Type 0 where
  comes_to : (x : A) (m : Units) → size m ≤ k → reads (Read x m) → Comes A reads k
  is_refused : (r : Refusal) → reads (Refused r) → Comes A reads k

-- the same outcome, of something else
pub with_outcome : {A : Type 0} {P Q : Outcome A → Type 0} {j k : ℕ} → Comes A P j → j ≤ k → ((o : Outcome A) → P o → Q o) → Comes A Q k
with_outcome (comes_to x m fits d) h f = comes_to x m (omega arith) (f (Read x m) d)
with_outcome (is_refused r d) h f = is_refused r (f (Refused r) d)

-- a part that has an outcome, and then what follows it
pub after : {A B : Type 0} {P : Outcome A → Type 0} {Q : Outcome B → Type 0} {j k : ℕ} (R : A → Units → Outcome B → Type 0) → Comes A P j → j ≤ k → ((x : A) (m : Units) → size m ≤ j → Comes B (R x m) (size m)) → ((x : A) (m : Units) (o : Outcome B) → P (Read x m) → R x m o → Q o) → ((r : Refusal) → P (Refused r) → Q (Refused r)) → Comes B Q k
after R (comes_to x m fits d) h follow read refused = with_outcome (follow x m fits) (omega arith) (λ o. read x m o d)
after R (is_refused r d) h follow read refused = is_refused r (refused r d)

-- What comes next

pub data Sees (l : Units) : Type 0 where
  sees_unit : (u : Unit) (m : Units) → past_space l ≡ Next u m → size m < size l → Sees l
  sees_end : (at : ℕ) → past_space l ≡ End at → Sees l
  sees_stop : (r : Refusal) → past_space l ≡ Stop r → Sees l

pub seen_later : (u : Unit) (us : Units) → past_space (Next u us) ≡ past_space us → Sees us → Sees (Next u us)
seen_later u us same (sees_unit v m e h) = sees_unit v m (same ∙ e) (omega arith)
seen_later u us same (sees_end at e) = sees_end at (same ∙ e)
seen_later u us same (sees_stop r e) = sees_stop r (same ∙ e)

pub sees : (l : Units) → Sees l
sees (Next u us) = elim (cases_Bool (is_space_piece u.piece)) [
  | inl h ↦ seen_later u us (rw h refl) (sees us)
  | inr h ↦ sees_unit u us (rw h refl) (omega arith)
]
sees (End place) = sees_end place refl
sees (Stop r) = sees_stop r refl

pub size-past_space : (l : Units) → size (past_space l) ≤ size l
size-past_space (Next u us) = elim (cases_Bool (is_space_piece u.piece)) [
  | inl h ↦ (let less = size-past_space us in rw h (omega arith))
  | inr h ↦ rw h (omega arith)
]
size-past_space (End place) = omega arith
size-past_space (Stop r) = omega arith

pub size-digits_next : (l : Units) → size (digits_next l).1 ≤ size l
size-digits_next (Next u us) = digits_shorten (is_space_piece u.piece) (a_digit u.piece) u us (digits_next us) (size-digits_next us)
  where
    digits_shorten : (space : Bool) (digit : Option (List ℕ)) (u : Unit) (us : Units) (behind : List ℕ × Units) → size behind.1 ≤ size us → size (digits_here space digit (Next u us) behind).1 ≤ size (Next u us)
    digits_shorten true digit u us behind h = omega arith
    digits_shorten false (Some digit) u us behind h = omega arith
    digits_shorten false None u us behind h = omega arith
size-digits_next (End place) = omega arith
size-digits_next (Stop r) = omega arith

-- what is found leaves at most k units
abbrev pub FoundFits : ℕ → Found → Type 0
FoundFits k (Given text m) = size m ≤ k
FoundFits k (Missing r) = ⊤

pub found_more : (k : ℕ) (found : Found) → FoundFits k found → FoundFits (suc k) found
found_more k (Given text m) h = omega arith
found_more k (Missing r) h = tt

pub found_longer : (c k : ℕ) (found : Found) → FoundFits k found → FoundFits k (with_character c found)
found_longer c k (Given text m) h = h
found_longer c k (Missing r) h = tt

pub done_fits : (place : ℕ) (spot : Spot) (d : Deed) (u : Unit) (l : Units) (behind : Spot → Found) → ((next : Spot) → FoundFits (size l) (behind next)) → FoundFits (suc (size l)) (done place spot d u l behind)
done_fits place spot (Passes next) u l behind h = found_more (size l) (behind next) (h next)
done_fits place spot (Adds c next) u l behind h = found_longer c (suc (size l)) (behind next) (found_more (size l) (behind next) (h next))
done_fits place spot Ends u l behind h = omega arith
done_fits place spot Leaves u l behind h = omega arith
done_fits place spot Misses u l behind h = tt
done_fits place spot (Refuses kind) u l behind h = tt

pub end_fits : (b : Bool) (l : Units) (r : Refusal) → FoundFits (size l) (found_at_end b l r)
end_fits true l r = omega arith
end_fits false l r = tt

pub scan_fits : (place : ℕ) (l : Units) (spot : Spot) → FoundFits (size l) (scan place l spot)
scan_fits place (Next u us) spot = done_fits place spot (deed spot u.piece) u us (scan place us) (scan_fits place us)
scan_fits place (End at) spot = end_fits (may_end spot) (End at) _
scan_fits place (Stop r) spot = end_fits (may_end spot) (Stop r) _

pub size-behind_found : (l : Units) (found : Found) → FoundFits (size l) found → size (behind_found l found) ≤ size l
size-behind_found l (Given text m) h = h
size-behind_found l (Missing r) h = omega arith

pub size-past : (spot : Spot) (l : Units) → size (past spot l) ≤ size l
size-past spot l = size-behind_found l (scan 0 l spot) (scan_fits 0 l spot)

pub size-past_break : (l : Units) → size (past_break l) ≤ size l
size-past_break l =
    let star = size-past BeforeStar l in
    let length = size-past BeforeLength (past BeforeStar l) in
    let row = size-past BeforeRow (past BeforeLength (past BeforeStar l)) in
    omega arith

-- whether units that pass these tests come next
pub data Finds (tests : List (Piece → Option (List ℕ))) (l : Units) : Type 0 where
  finds : (texts : List ℕ) (m : Units) → next_are tests l ≡ Some (texts, m) → size m ≤ size l → Finds tests l
  finds_none : next_are tests l ≡ None → Finds tests l

pub with_first : {test : Piece → Option (List ℕ)} {tests : List (Piece → Option (List ℕ))} {l m : Units} {u : Unit} → past_space l ≡ Next u m → size m < size l → (found : Option (List ℕ)) → test u.piece ≡ found → Finds tests m → Finds (test ∷ tests) l
with_first p h (Some first) e (finds texts n f less) = finds (first ++ texts) n (rw (p, e, f) refl) (omega arith)
with_first p h (Some first) e (finds_none f) = finds_none (rw (p, e, f) refl)
with_first p h None e more = finds_none (rw (p, e) refl)

pub find_next : (tests : List (Piece → Option (List ℕ))) (l : Units) → Finds tests l
find_next [] l = finds [] l refl (omega arith)
find_next (test ∷ tests) l = elim (sees l) [
  | sees_unit u m p h ↦ with_first p h (test u.piece) refl (find_next tests m)
  | sees_end at p ↦ finds_none (rw p refl)
  | sees_stop r p ↦ finds_none (rw p refl)
]

-- the rows of a table have an outcome, which leaves the unit that ends the table and fewer than k units after it, or the end
-- of the text
pub data RowsCome (reads : Outcome Lines → Type 0) (k : ℕ) : Type 0 where
  rows_come : (lines : Lines) (l m : Units) (u : Unit) → past_space l ≡ Next u m → size m < k → reads (Read lines l) → RowsCome reads k
  rows_come_to_end : (lines : Lines) (l : Units) (at : ℕ) → past_space l ≡ End at → reads (Read lines l) → RowsCome reads k
  rows_none : (r : Refusal) → reads (Refused r) → RowsCome reads k

pub with_rows : {P Q : Outcome Lines → Type 0} {j k : ℕ} → RowsCome P j → j ≤ k → ((o : Outcome Lines) → P o → Q o) → RowsCome Q k
with_rows (rows_come lines l m u p fits d) h f = rows_come lines l m u p (omega arith) (f (Read lines l) d)
with_rows (rows_come_to_end lines l at p d) h f = rows_come_to_end lines l at p (f (Read lines l) d)
with_rows (rows_none r d) h f = rows_none r (f (Refused r) d)

-- there is an outcome for fewer than k units
pub record HasOutcomes (k : ℕ) : Type 0 where
  pub of_rule : (r : Rule) (l : Units) → size l < k → Comes Core (ReadsRule r l) (size l)
  pub of_operand : (place : ℕ) (c : Context) (l : Units) → size l < k → Comes Operand (ReadsOperand place c l) (size l)
  pub of_scripts : (c : Context) (before : Before) (base : Atom) (scripts : Scripts) (l : Units) → size l < k → Comes Atom (ReadsScripts c before base scripts l) (size l)
  pub of_atoms : (ending : Ending) (c : Context) (row : Row) (l : Units) → size l < k → Comes Row (ReadsAtoms ending c row l) (size l)
  pub of_rows : (end : TableEnd) (place : ℕ) (columns : Columns) (c : Context) (rows cells : List Element) (l : Units) → size l < k → RowsCome (ReadsRows end place columns c rows cells l) (size l)
  -- what is a part of words is taken
  pub of_word : (place : ℕ) (c : Context) (ws : Words) (l : Units) → size l < k → Comes Words (ReadsWord place c ws l) (size l - 1)
  pub of_words : (place : ℕ) (c : Context) (ws : Words) (l : Units) → size l < k → Comes Words (ReadsWords place c ws l) (size l)
