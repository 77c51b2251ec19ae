-- What units are read as, units that are alike but for white space are read as too.
use Rattle.std.proofs.Common.{◌≡◌, ℕ, ℤ, List, true, [], ◌∷◌, refl, sym, ap, subst, ◌∙◌}
use Rattle.latex2mathml_elements.specs.Columns.{Columns}
use Rattle.latex2mathml_tex_grammar.specs.{Atoms.Atom, Atoms.Before, Delimiters.delimiter_of, Makes.Core, Makes.Scripts, Refusal.MissingDelimiter, Refusal.Refusal, Rows.Row, Rows.Operand, Words.Words}
use Rattle.latex2mathml_tex_grammar.specs.Next.{digits_next, past_space}
use Rattle.latex2mathml_tex_grammar.specs.Reading.{Outcome, Read, Refused, ReadsRule, rule_gives, rule_refuses, operand_read, operand_refused, core_read, core_refused, core_missing, core_stopped, atoms_read, atoms_refused, words_read, words_refused, units_taken, units_missing, unit_follows, no_unit_follows, digits_taken, delimiter_taken, delimiter_missing, ReadsOperand, group_operand, group_refused, digit_operand, other_operand, other_refused, no_operand, operand_at_end, operand_stopped, ReadsScripts, scripts_end, mark_taken, script_read, script_refused, mark_refused, ReadsAtom, divider_read, divider_refused, on_empty_row, base_read, base_refused, ReadsAtoms, text_ends, never_ended, atoms_stopped, atoms_end, atom_read, atom_refused, rest_read, change_refused, ReadsWord, word_stands, group_of_words, formula_read, formula_refused, words_in_alphabet, no_word, word_missing, word_at_end, word_stopped, ReadsPart, part_of_words, box_in_words, box_refused_in_words, ReadsWords, words_end, words_never_ended, words_stopped, atom_in_words, atom_refused_in_words, word_read, word_refused, ligature_read, words_resized, words_resized_refused, found_taken, found_refused, passed_over, rows_read, rows_refused, ReadsRows, cell_read, cell_refused, ReadsBehindCell, next_cell, arrow_read, arrow_refused, no_arrow, next_row, table_ends, rows_to_end, text_ends_table}
use Rattle.latex2mathml_tex_grammar.specs.Diagrams.{arrow_of, sign_of_arrow}
use Rattle.latex2mathml_tex_grammar.specs.Rules.{Context, Ending, begun, Rule, TableEnd, InCell}
use Rattle.latex2mathml_tex_grammar.specs.Spacing.{Standing, InWords, standing_behind, AreAlike, both_end, same_piece}
use Rattle.latex2mathml_tex_grammar.specs.Starts.{is_close}
use Rattle.latex2mathml_tex_grammar.specs.Units.{Piece, Space, Open, Close, Command, Character, Unit, unit, Units, End, Next}
use Rattle.latex2mathml_tex_grammar.proofs.AlikeRules.{AlikeEndings, both_braces, both_dollars, same_begun, same_ends, same_start, unended_too, never_ended_too, inside, WordsStand, before_words, within_words, AlikeRules, gives_too, refuses_too, operand_too, core_too, atoms_too, words_too, if_too, follows_too, digits_taken_too, delimiter_too, rules_too, arrow_too, arrow_tests, delimiter_tests, both_cells, cell_ends, left_too, scanned_too, passed_too, rows_too}
use Rattle.latex2mathml_tex_grammar.proofs.BoxedWords.{box_rules, box_stays}
use Rattle.latex2mathml_tex_grammar.proofs.WordScans.{RulesInWords, both_find, both_give, both_pass, both_read, both_refuse, both_take, found_in_words, rules_in_words, missing_in_words, past_in_words}
use Rattle.latex2mathml_tex_grammar.proofs.AlikeRests.{rest_too, no_rest_too}
use Rattle.latex2mathml_tex_grammar.proofs.Plain.{change_start_plain, divider_plain, digit_start_plain, group_start_plain, step_plain}
use Rattle.latex2mathml_tex_grammar.proofs.Spaces.{Front, next_stays, both_next, both_ended, both_stopped, fronts, fronts_of_words, looks_too, next_too, end_too, stop_too, refused_too, same_step, IsCalm, in_dollars, behind_plain, taken_kept, taken_too, missing_kept, missing_too, digits_too, IsPlain}
use Rattle.latex2mathml_elements.specs.{Element.Element, Lines.Line}
use Rattle.latex2mathml_tex_grammar.specs.{RowLines.is_line_command, RowLines.line_at, RowLines.line_next, RowLines.line_of, RowLines.lined, Scanning.BeforeRow, Rows.row_element, Tables.Lines, Tables.a_row}
use Rattle.latex2mathml_tex_grammar.proofs.{Scans.found_too, Scans.refused_too as found_refused_too, Scans.past_too, Scans.past_break_too, Scans.past_gap_too, Scans.gap_too}
use Rattle.latex2mathml_tex_grammar.proofs.{WordPieces.IsLengthCommand, WordPieces.length_command, WordPieces.length_ends, WordPieces.length_plain, WordPieces.size_changes, WordPieces.word_ends, WordPieces.formula_begins, WordPieces.words_begin, WordPieces.words_follow}
use Rattle.latex2mathml_tex_grammar.specs.Ligatures.{joined}
use Rattle.latex2mathml_tex_grammar.proofs.Ligatures.{joined_alike, start_stays}
use Rattle.latex2mathml_tex_grammar.specs.Words.{shown_character, with_word}

-- the same is read, and the units after it are alike, or the refusal is for the same reason
pub data Carried {A : Type 0} (at : Standing) (reads : Outcome A → Type 0) : Outcome A → Type 0 where
  also_read : {x : A} {l : Units} (m : Units) → AreAlike at l m → reads (Read x m) → Carried at reads (Read x l)
  also_refused : {r : Refusal} (q : Refusal) → r.kind ≡ q.kind → reads (Refused q) → Carried at reads (Refused r)

pub read_is : {A : Type 0} {at : Standing} {reads : Outcome A → Type 0} {x : A} {l : Units} → Carried at reads (Read x l) → (m : Units) × AreAlike at l m × reads (Read x m)
read_is (also_read m h d) = (m, h, d)

pub refused_is : {A : Type 0} {at : Standing} {reads : Outcome A → Type 0} {r : Refusal} → Carried at reads (Refused r) → (q : Refusal) × (r.kind ≡ q.kind) × reads (Refused q)
refused_is (also_refused q e d) = (q, e, d)

-- this also holds of what has the same outcomes
also : {A : Type 0} {at : Standing} {P Q : Outcome A → Type 0} {o : Outcome A} → Carried at P o → ((p : Outcome A) → P p → Q p) → Carried at Q o
also (also_read m h d) f = also_read m h (f (Read _ m) d)
also (also_refused q e d) f = also_refused q e (f (Refused q) d)

-- units that are alike in one standing are alike in an equal one
stands : {before at : Standing} {l m : Units} → before ≡ at → AreAlike before l m → AreAlike at l m
stands {l = l} {m = m} e h = subst (λ k. AreAlike k l m) e h

-- what closes is a brace
closed : (at : Standing) (piece : Piece) {l m : Units} → is_close piece ≡ true → AreAlike (standing_behind piece at) l m → AreAlike (standing_behind Close at) l m
closed at Close s h = h
closed at Space s h = cc
closed at Open s h = cc
closed at (Command name) s h = cc
closed at (Character c) s h = cc

-- what ends a cell is plain, and so is what ends a table

abbrev EndsInCell : Units → Type 0
EndsInCell l = (m : Units) (u : Unit) → past_space l ≡ Next u m → IsPlain u.piece

left_ends : {end : TableEnd} {place : ℕ} {c : Context} {row other : Row} {l n : Units} → ReadsAtoms (InCell end place) c row l (Read other n) → EndsInCell n
left_ends (text_ends p s) m v q = cc
left_ends {end} {place} (atoms_end {l = l} {m = k} {u = u} p s) m v q = (let stays : past_space (Next u k) ≡ Next u k = next_stays l u k p in let same : u ≡ v = cc in subst (λ u. IsPlain u.piece) same (cell_ends end place u.piece s))
left_ends (atom_read p s d ds) m v q = left_ends ds m v q
left_ends (rest_read p s t r d) m v q = left_ends d m v q

-- atoms from the beginning of a row with an ending that is alike
from_begun : {e f : Ending} {c : Context} {l : Units} {o : Outcome Row} → AlikeEndings e f → ReadsAtoms f c (begun e) l o → ReadsAtoms f c (begun f) l o
from_begun {f = f} {c} {l} {o} ending d = subst (λ row. ReadsAtoms f c row l o) (same_begun ending) d

mutual
  rows_end : {end : TableEnd} {place : ℕ} {columns : Columns} {c : Context} {rows cells : List Element} {l n : Units} {lines : Lines} → ReadsRows end place columns c rows cells l (Read lines n) → EndsInCell n
  rows_end (cell_read d ds) = cell_behind_ends ds (left_ends d)

  cell_behind_ends : {end : TableEnd} {place : ℕ} {columns : Columns} {c : Context} {rows cells cell : List Element} {l n : Units} {lines : Lines} → ReadsBehindCell end place columns c rows cells cell l (Read lines n) → EndsInCell l → EndsInCell n
  cell_behind_ends (next_cell p s d) ended = rows_end d
  cell_behind_ends (arrow_read p s f d ds) ended = rows_end ds
  cell_behind_ends (next_row p s d) ended = rows_end d
  cell_behind_ends (table_ends p s) ended = ended
  cell_behind_ends (text_ends_table p) ended = ended

-- the same line comes next
line_there : {at : Standing} {k n : Units} → Front at k n → line_at k ≡ line_at n
line_there (both_next {u = u} place s h) = ap (line_of u.piece) (looks_too is_line_command h)
line_there both_ended = refl
line_there (both_stopped e) = refl

line_too : {at : Standing} {l m : Units} → AreAlike at l m → line_next l ≡ line_next m
line_too h = line_there (fronts h)

-- the same line is behind the same rows
lined_too : {at : Standing} {end : TableEnd} {place : ℕ} {columns : Columns} {c : Context} {k : Units} {o : Outcome Lines} {a b : Line} {xs ys : List Element} → a ≡ b → xs ≡ ys → Carried at (ReadsRows end place columns c (lined a xs) [] k) o → Carried at (ReadsRows end place columns c (lined b ys) [] k) o
lined_too {at} {end} {place} {columns} {c} {k} {o} {b = b} {xs = xs} e f h =
    subst (λ rows. Carried at (ReadsRows end place columns c (lined b rows) [] k) o) f (subst (λ line. Carried at (ReadsRows end place columns c (lined line xs) [] k) o) e h)

-- where units after words are: in a formula, or in other words
data IsSettled : Standing → Type 0 where
  is_calm : {at : Standing} → IsCalm at → IsSettled at
  in_words : {at : Standing} → IsSettled (InWords at)

-- a command that takes a length leaves units of a formula where they are
length_behind : (piece : Piece) → IsLengthCommand piece → (before at : Standing) → WordsStand before at → IsCalm at → {l m : Units} → AreAlike (standing_behind piece before) l m → AreAlike (standing_behind piece at) l m
length_behind piece takes before at w calm h = stands (length_ends piece takes before at w ∙ sym (length_plain piece takes at calm)) h

mutual
  -- Where units are in a formula, everything is carried over to rules that are alike.
  pub carry_rule : {at before : Standing} {r s : Rule} {l m : Units} {o : Outcome Core} → ReadsRule r l o → AlikeRules at before r s → IsCalm at → AreAlike before l m → Carried at (ReadsRule s m) o
  carry_rule {m = m} rule_gives gives_too calm h = also_read m h rule_gives
  carry_rule rule_refuses (refuses_too e) calm h = also_refused _ e rule_refuses
  carry_rule (operand_read {x = x} d ds) (operand_too {q = q} same) calm h =
      let (n, alike, e) = read_is (carry_operand q d calm h) in also (carry_rule ds (same x) calm alike) (λ p. operand_read e)
  carry_rule (operand_refused d) (operand_too {q = q} same) calm h = (let (r, kind, e) = refused_is (carry_operand q d calm h) in also_refused r kind (operand_refused e))
  carry_rule (core_read {c = c} {u = u} {x = x} p d ds) (core_too same) calm h =
      let next = next_too h p in
      let (n, alike, e) = read_is (carry_rule d (rules_too u.place next.place c u.piece calm) calm next.alike) in
      also (carry_rule ds (same x) calm alike) (λ p. core_read next.is e)
  carry_rule (core_refused {c = c} {u = u} p d) (core_too same) calm h =
      let next = next_too h p in
      let (r, kind, e) = refused_is (carry_rule d (rules_too u.place next.place c u.piece calm) calm next.alike) in
      also_refused r kind (core_refused next.is e)
  carry_rule (core_missing p) (core_too same) calm h = also_refused _ refl (core_missing (end_too h p).1)
  carry_rule (core_stopped p) (core_too same) calm h = (let (q, kind, e) = stop_too h p in also_refused q kind (core_stopped e))
  carry_rule {at = at} (atoms_read {row = row} d ds) (atoms_too ending e same) calm h =
      let (n, alike, a) = read_is (carry_atoms at d ending (subst IsCalm e calm) (stands e h)) in also (carry_rule ds (same row) calm alike) (λ p. atoms_read (from_begun ending a))
  carry_rule {at = at} (atoms_refused d) (atoms_too ending e same) calm h = (let (r, kind, a) = refused_is (carry_atoms at d ending (subst IsCalm e calm) (stands e h)) in also_refused r kind (atoms_refused (from_begun ending a)))
  carry_rule (words_read {ws = ws} d ds) (words_too {q = q} same) calm h =
      let (n, alike, e) = read_is (carry_word q d before_words (is_calm calm) (fronts h)) in also (carry_rule ds (same ws) calm alike) (λ p. words_read e)
  carry_rule (words_refused d) (words_too {q = q} same) calm h = (let (r, kind, e) = refused_is (carry_word q d before_words (is_calm calm) (fronts h)) in also_refused r kind (words_refused e))
  carry_rule (units_taken {tests = tests} {texts = texts} p d) (if_too plain same other) calm h =
      let taken = taken_too tests plain calm h p in also (carry_rule d (same texts) calm taken.alike) (λ p. units_taken taken.is)
  carry_rule (units_missing {tests = tests} p d) (if_too plain same other) calm h = also (carry_rule d other calm h) (λ q. units_missing (missing_too tests plain calm h p))
  carry_rule (unit_follows {test = test} p d) (follows_too same other) calm h = also (carry_rule d same calm h) (λ q. unit_follows (sym (looks_too test h) ∙ p))
  carry_rule (no_unit_follows {test = test} p d) (follows_too same other) calm h = also (carry_rule d other calm h) (λ q. no_unit_follows (sym (looks_too test h) ∙ p))
  carry_rule {m = m} (digits_taken {l = l} d) (digits_taken_too {g = g} same) calm h =
      let digits = digits_too calm h in
      also (carry_rule d (same (digits_next l).0) calm digits.alike) (λ p e. digits_taken (subst (λ t. ReadsRule (g t) (digits_next m).1 p) digits.texts e))
  carry_rule (delimiter_taken {sign_text = sign_text} p d) (delimiter_too same) calm h =
      let taken = taken_too (delimiter_of ∷ []) delimiter_tests calm h p in also (carry_rule d (same sign_text) calm taken.alike) (λ p. delimiter_taken taken.is)
  carry_rule (delimiter_missing p) (delimiter_too same) calm h = also_refused _ (refused_too MissingDelimiter h) (delimiter_missing (missing_too (delimiter_of ∷ []) delimiter_tests calm h p))
  carry_rule (found_taken {text = text} e d) (scanned_too {spot = spot} {p = p} {q = q} same) calm h =
      let found = found_too p q spot calm h e in also (carry_rule d (same text) calm found.alike) (λ p. found_taken found.is)
  carry_rule (found_refused e) (scanned_too {spot = spot} {p = p} {q = q} same) calm h = (let (r, kind, f) = found_refused_too p q spot calm h e in also_refused r kind (found_refused f))
  carry_rule (passed_over {spot = spot} d) (passed_too same) calm h = also (carry_rule d same calm (past_too spot calm h)) (λ p. passed_over)
  carry_rule (rows_read {u = u} {lines = lines} d p ds) (rows_too {q = q} same) calm h =
      let (n, alike, e) = read_is (lined_too (line_too h) refl (carry_rows q d calm (past_too BeforeRow calm h))) in
      let next = next_too alike p in
      let plain = behind_plain u.piece (rows_end d _ u p) calm next.alike in
      also (carry_rule ds (same lines u.place next.place) calm plain) (λ p. rows_read e next.is)
  carry_rule (rows_to_end {at = end} {lines = lines} d p ds) (rows_too {q = q} same) calm h =
      let (n, alike, e) = read_is (lined_too (line_too h) refl (carry_rows q d calm (past_too BeforeRow calm h))) in
      let (other, there) = end_too alike p in
      also (carry_rule ds (same lines end other) calm both_end) (λ p. rows_to_end e there)
  carry_rule (rows_refused d) (rows_too {q = q} same) calm h = (let (r, kind, e) = refused_is (lined_too (line_too h) refl (carry_rows q d calm (past_too BeforeRow calm h))) in also_refused r kind (rows_refused e))

  -- the place of what takes an operand makes no difference
  carry_operand : {at : Standing} {place : ℕ} {c : Context} {l m : Units} {o : Outcome Operand} (other : ℕ) → ReadsOperand place c l o → IsCalm at → AreAlike at l m → Carried at (ReadsOperand other c m) o
  carry_operand {at = at} other (group_operand {u = u} p s d) calm h =
      let next = next_too h p in
      let (n, alike, e) = read_is (carry_atoms at d both_braces calm (behind_plain u.piece (group_start_plain u.piece s) calm next.alike)) in
      also_read n alike (group_operand next.is s e)
  carry_operand {at = at} other (group_refused {u = u} p s d) calm h =
      let next = next_too h p in
      let (r, kind, e) = refused_is (carry_atoms at d both_braces calm (behind_plain u.piece (group_start_plain u.piece s) calm next.alike)) in
      also_refused r kind (group_refused next.is s e)
  carry_operand other (digit_operand {u = u} {digit = digit} p s) calm h =
      let next = next_too h p in also_read next.rest (behind_plain u.piece (digit_start_plain u.piece digit s) calm next.alike) (digit_operand next.is s)
  carry_operand other (other_operand {c = c} {u = u} p s d) calm h =
      let next = next_too h p in
      let (n, alike, e) = read_is (carry_rule d (rules_too u.place next.place c u.piece calm) calm next.alike) in
      also_read n alike (other_operand next.is s e)
  carry_operand other (other_refused {c = c} {u = u} p s d) calm h =
      let next = next_too h p in
      let (r, kind, e) = refused_is (carry_rule d (rules_too u.place next.place c u.piece calm) calm next.alike) in
      also_refused r kind (other_refused next.is s e)
  carry_operand other (no_operand p s) calm h = (let next = next_too h p in also_refused _ refl (no_operand next.is s))
  carry_operand other (operand_at_end p) calm h = also_refused _ refl (operand_at_end (end_too h p).1)
  carry_operand other (operand_stopped p) calm h = (let (q, kind, e) = stop_too h p in also_refused q kind (operand_stopped e))

  carry_scripts : {at : Standing} {c : Context} {before : Before} {base : Atom} {scripts : Scripts} {l m : Units} {o : Outcome Atom} → ReadsScripts c before base scripts l o → IsCalm at → AreAlike at l m → Carried at (ReadsScripts c before base scripts m) o
  carry_scripts {m = m} (scripts_end {scripts = k} s) calm h = also_read m h (scripts_end (sym (same_step k h) ∙ s))
  carry_scripts (mark_taken {scripts = k} {u = u} p s d) calm h =
      let next = next_too h p in also (carry_scripts d calm (behind_plain u.piece (step_plain u.piece k _ s) calm next.alike)) (λ p. mark_taken next.is s)
  carry_scripts (script_read {scripts = k} {u = u} p s d ds) calm h =
      let next = next_too h p in
      let (n, alike, e) = read_is (carry_operand next.place d calm (behind_plain u.piece (step_plain u.piece k _ s) calm next.alike)) in
      also (carry_scripts ds calm alike) (λ p. script_read next.is s e)
  carry_scripts (script_refused {scripts = k} {u = u} p s d) calm h =
      let next = next_too h p in
      let (r, kind, e) = refused_is (carry_operand next.place d calm (behind_plain u.piece (step_plain u.piece k _ s) calm next.alike)) in
      also_refused r kind (script_refused next.is s e)
  carry_scripts (mark_refused p s) calm h = (let next = next_too h p in also_refused _ refl (mark_refused next.is s))

  -- an atom of the same piece at another place
  carry_atom : {at : Standing} {e f : Ending} {c : Context} {before : Before} {u : Unit} {l m : Units} {o : Outcome Atom} (place : ℕ) → ReadsAtom e c before u l o → AlikeEndings e f → IsCalm at → AreAlike (standing_behind u.piece at) l m → Carried at (ReadsAtom f c before (unit u.piece place) m) o
  carry_atom {e = e} place (divider_read {u = u} s d) ending calm h =
      let (n, alike, x) = read_is (carry_rule d (delimiter_too (λ sign_text. gives_too)) calm (behind_plain u.piece (divider_plain e u.piece s) calm h)) in
      also_read n alike (divider_read (sym (same_start ending u.piece) ∙ s) x)
  carry_atom {e = e} place (divider_refused {u = u} s d) ending calm h =
      let (r, kind, x) = refused_is (carry_rule d (delimiter_too (λ sign_text. gives_too)) calm (behind_plain u.piece (divider_plain e u.piece s) calm h)) in
      also_refused r kind (divider_refused (sym (same_start ending u.piece) ∙ s) x)
  carry_atom place (on_empty_row {u = u} s d) ending calm h =
      also (carry_scripts d calm (same_piece refl h)) (λ p. on_empty_row (sym (same_start ending u.piece) ∙ s))
  carry_atom place (base_read {c = c} {u = u} s d ds) ending calm h =
      let (n, alike, x) = read_is (carry_rule d (rules_too u.place place c u.piece calm) calm h) in
      also (carry_scripts ds calm alike) (λ p. base_read (sym (same_start ending u.piece) ∙ s) x)
  carry_atom place (base_refused {c = c} {u = u} s d) ending calm h =
      let (r, kind, x) = refused_is (carry_rule d (rules_too u.place place c u.piece calm) calm h) in
      also_refused r kind (base_refused (sym (same_start ending u.piece) ∙ s) x)

  -- atoms are inside their ending, and the units after it are where the whole is
  pub carry_atoms : {e f : Ending} {c : Context} {row : Row} {l m : Units} {o : Outcome Row} (at : Standing) → ReadsAtoms e c row l o → AlikeEndings e f → IsCalm (inside e at) → AreAlike (inside e at) l m → Carried at (ReadsAtoms f c row m) o
  carry_atoms at (text_ends p s) ending calm h = (let (place, e) = end_too h p in also_read (End place) both_end (text_ends e (unended_too ending s)))
  carry_atoms at (never_ended p s) ending calm h =
      let (place, e) = end_too h p in
      let (q, kind, t) = never_ended_too ending s in
      also_refused q kind (never_ended e t)
  carry_atoms at (atoms_stopped p) ending calm h = (let (q, kind, e) = stop_too h p in also_refused q kind (atoms_stopped e))
  carry_atoms {e = e} at (atoms_end {u = u} p s) ending calm h =
      let next = next_too h p in also_read _ (left_too at ending u (unit u.piece next.place) refl s calm next.alike) (atoms_end next.is (sym (same_ends ending u.piece) ∙ s))
  carry_atoms {e = e} at (atom_read {u = u} p s d ds) ending calm h =
      let next = next_too h p in
      let (n, alike, x) = read_is (carry_atom next.place d ending calm next.alike) in
      also (carry_atoms at ds ending calm alike) (λ p. atom_read next.is (sym (same_ends ending u.piece) ∙ s) x)
  carry_atoms {e = e} at (atom_refused {u = u} p s d) ending calm h =
      let next = next_too h p in
      let (r, kind, x) = refused_is (carry_atom next.place d ending calm next.alike) in
      also_refused r kind (atom_refused next.is (sym (same_ends ending u.piece) ∙ s) x)
  carry_atoms {e = e} at (rest_read {c = c} {row = row} {change = change} {u = u} p s t r d) ending calm h =
      let next = next_too h p in
      let (n, alike, rest) = rest_too change c row u.place next.place calm (behind_plain u.piece (change_start_plain e u.piece change t) calm next.alike) r in
      also (carry_atoms at d ending calm alike)
      (λ p. rest_read next.is (sym (same_ends ending u.piece) ∙ s) (sym (same_start ending u.piece) ∙ t) rest)
  carry_atoms {e = e} at (change_refused {c = c} {row = row} {change = change} {u = u} p s t r) ending calm h =
      let next = next_too h p in
      let (q, kind, rest) = no_rest_too change c row u.place next.place calm (behind_plain u.piece (change_start_plain e u.piece change t) calm next.alike) r in
      also_refused q kind (change_refused next.is (sym (same_ends ending u.piece) ∙ s) (sym (same_start ending u.piece) ∙ t) rest)

  carry_rows : {at : Standing} {end : TableEnd} {place : ℕ} {columns : Columns} {c : Context} {rows cells : List Element} {l m : Units} {o : Outcome Lines} (other : ℕ) → ReadsRows end place columns c rows cells l o → IsCalm at → AreAlike at l m → Carried at (ReadsRows end other columns c rows cells m) o
  carry_rows {at = at} {end = end} other (cell_read d ds) calm h =
      let (n, alike, e) = read_is (carry_atoms at d (both_cells end) calm h) in also (carry_behind_cell other (left_ends d) ds calm alike) (λ p. cell_read e)
  carry_rows {at = at} {end = end} other (cell_refused d) calm h = (let (r, kind, e) = refused_is (carry_atoms at d (both_cells end) calm h) in also_refused r kind (cell_refused e))

  carry_behind_cell : {at : Standing} {end : TableEnd} {place : ℕ} {columns : Columns} {c : Context} {rows cells cell : List Element} {l m : Units} {o : Outcome Lines} (other : ℕ) → EndsInCell l → ReadsBehindCell end place columns c rows cells cell l o → IsCalm at → AreAlike at l m → Carried at (ReadsBehindCell end other columns c rows cells cell m) o
  carry_behind_cell other ended (next_cell {u = u} p s d) calm h =
      let next = next_too h p in
      also (carry_rows other d calm (behind_plain u.piece (ended _ u p) calm next.alike)) (λ p. next_cell next.is s)
  carry_behind_cell other ended (arrow_read {c = c} {u = u} {sign = sign} p s f d ds) calm h =
      let next = next_too h p in
      let taken = taken_too (sign_of_arrow ∷ []) arrow_tests calm (behind_plain u.piece (ended _ u p) calm next.alike) f in
      let (n, alike, e) = read_is (carry_rule d (arrow_too u.place next.place c (arrow_of sign)) calm taken.alike) in
      also (carry_rows other ds calm alike) (λ p. arrow_read next.is s taken.is e)
  carry_behind_cell other ended (arrow_refused {c = c} {u = u} {sign = sign} p s f d) calm h =
      let next = next_too h p in
      let taken = taken_too (sign_of_arrow ∷ []) arrow_tests calm (behind_plain u.piece (ended _ u p) calm next.alike) f in
      let (r, kind, e) = refused_is (carry_rule d (arrow_too u.place next.place c (arrow_of sign)) calm taken.alike) in
      also_refused r kind (arrow_refused next.is s taken.is e)
  carry_behind_cell other ended (no_arrow {u = u} p s f) calm h =
      let next = next_too h p in
      let alike = behind_plain u.piece (ended _ u p) calm next.alike in
      also_refused _ refl (no_arrow next.is s (missing_too (sign_of_arrow ∷ []) arrow_tests calm alike f))
  carry_behind_cell other ended (next_row {columns = columns} {rows = rows} {cells = cells} {cell = cell} {u = u} p s d) calm h =
      let next = next_too h p in
      let alike = behind_plain u.piece (ended _ u p) calm next.alike in
      let row = λ (gap : ℤ). a_row columns gap (row_element cell) cells ∷ rows in
      also (lined_too (line_too (past_gap_too calm alike)) (ap row (gap_too calm alike)) (carry_rows other d calm (past_break_too calm alike))) (λ p. next_row next.is s)
  carry_behind_cell {m = m} other ended (table_ends p s) calm h = (let next = next_too h p in also_read m h (table_ends next.is s))
  carry_behind_cell {m = m} other ended (text_ends_table p) calm h = also_read m h (text_ends_table (end_too h p).1)

  -- Where units are in words, lengths, colors and words are carried over.
  pub carry_in_words : {at : Standing} {r s : Rule} {l m : Units} {o : Outcome Core} → ReadsRule r l o → RulesInWords r s → AreAlike (InWords at) l m → Carried (InWords at) (ReadsRule s m) o
  carry_in_words {m = m} rule_gives both_give h = also_read m h rule_gives
  carry_in_words rule_refuses (both_refuse e) h = also_refused _ e rule_refuses
  carry_in_words (found_taken {spot = spot} {place = place} {text = text} p d) (both_find {q = q} i none same) h =
      let found = found_in_words place q spot i none h p in also (carry_in_words d (same text) found.alike) (λ p. found_taken found.is)
  carry_in_words (found_refused {spot = spot} {place = place} p) (both_find {q = q} i none same) h =
      let (r, kind, e) = missing_in_words place q spot i none h p in also_refused r kind (found_refused e)
  carry_in_words {at} (units_taken {tests = tests} {texts = texts} p d) (both_take stay same other) h =
      let taken = taken_kept tests (stay at) h p in also (carry_in_words d (same texts) taken.alike) (λ q. units_taken taken.is)
  carry_in_words {at} (units_missing {tests = tests} p d) (both_take stay same other) h = also (carry_in_words d other h) (λ q. units_missing (missing_kept tests (stay at) h p))
  carry_in_words (passed_over {spot = spot} d) (both_pass i none same) h = also (carry_in_words d same (past_in_words spot i none h)) (λ p. passed_over)
  carry_in_words (words_read {ws = ws} d ds) (both_read {q = q} same) h =
      let (n, alike, e) = read_is (carry_word q d within_words in_words (fronts h)) in also (carry_in_words ds (same ws) alike) (λ p. words_read e)
  carry_in_words (words_refused d) (both_read {q = q} same) h = (let (r, kind, e) = refused_is (carry_word q d within_words in_words (fronts h)) in also_refused r kind (words_refused e))
  carry_in_words (operand_read _ _) none h = elim none [ ]
  carry_in_words (operand_refused _) none h = elim none [ ]
  carry_in_words (core_read _ _ _) none h = elim none [ ]
  carry_in_words (core_refused _ _) none h = elim none [ ]
  carry_in_words (core_missing _) none h = elim none [ ]
  carry_in_words (core_stopped _) none h = elim none [ ]
  carry_in_words (atoms_read _ _) none h = elim none [ ]
  carry_in_words (atoms_refused _) none h = elim none [ ]
  carry_in_words (unit_follows _ _) none h = elim none [ ]
  carry_in_words (no_unit_follows _ _) none h = elim none [ ]
  carry_in_words (digits_taken _) none h = elim none [ ]
  carry_in_words (delimiter_taken _ _) none h = elim none [ ]
  carry_in_words (delimiter_missing _) none h = elim none [ ]
  carry_in_words (rows_read _ _ _) none h = elim none [ ]
  carry_in_words (rows_to_end _ _ _) none h = elim none [ ]
  carry_in_words (rows_refused _) none h = elim none [ ]

  -- one part of words, which is all of them where words are due
  carry_word : {before at : Standing} {place : ℕ} {c : Context} {ws : Words} {l m : Units} {o : Outcome Words} (other : ℕ) → ReadsWord place c ws l o → WordsStand before at → IsSettled at → Front before l m → Carried at (ReadsWord other c ws m) o
  carry_word {before = before} {at = at} other (word_stands {c = c} {u = u} {w = x} s) w settled (both_next {m = m} place t h) =
      also_read m (stands (word_ends c.alphabet u.piece x s before at w t) h) (word_stands s)
  carry_word {before = before} {at = at} other (group_of_words {c = c} {u = u} s d) w settled (both_next place t h) =
      also (carry_words place d (fronts_of_words (stands (words_begin c.alphabet u.piece s before at w) h))) (λ p. group_of_words s)
  carry_word {before = before} {at = at} other (formula_read {c = c} {u = u} s d) w settled (both_next place t h) =
      let (n, alike, e) = read_is (carry_atoms at d both_dollars in_dollars (stands (formula_begins c.alphabet u.piece s before at w) h)) in
      also_read n alike (formula_read s e)
  carry_word {before = before} {at = at} other (formula_refused {c = c} {u = u} s d) w settled (both_next place t h) =
      let (r, kind, e) = refused_is (carry_atoms at d both_dollars in_dollars (stands (formula_begins c.alphabet u.piece s before at w) h)) in
      also_refused r kind (formula_refused s e)
  carry_word {before = before} {at = at} other (words_in_alphabet {c = c} {a = a} {u = u} s d) w settled (both_next place t h) =
      also (carry_word place d before_words settled (fronts (stands (words_follow c.alphabet a u.piece s before at w) h))) (λ p. words_in_alphabet s)
  carry_word {before = before} {at = at} other (atom_in_words {c = c} {u = u} s d) w (is_calm calm) (both_next place t h) =
      let takes = length_command c.alphabet u.piece s in
      let (n, alike, e) = read_is (carry_rule d (rules_too u.place place c u.piece calm) calm (length_behind u.piece takes before at w calm h)) in
      also_read n alike (atom_in_words s e)
  carry_word {before = before} {at = at} other (atom_in_words {c = c} {u = u} s d) w in_words (both_next place t h) =
      let takes = length_command c.alphabet u.piece s in
      let (n, alike, e) = read_is (carry_in_words d (rules_in_words u.place place c u.piece takes) (stands (length_ends u.piece takes before at w) h)) in
      also_read n alike (atom_in_words s e)
  carry_word {before = before} {at = at} other (atom_refused_in_words {c = c} {u = u} s d) w (is_calm calm) (both_next place t h) =
      let takes = length_command c.alphabet u.piece s in
      let (r, kind, e) = refused_is (carry_rule d (rules_too u.place place c u.piece calm) calm (length_behind u.piece takes before at w calm h)) in
      also_refused r kind (atom_refused_in_words s e)
  carry_word {before = before} {at = at} other (atom_refused_in_words {c = c} {u = u} s d) w in_words (both_next place t h) =
      let takes = length_command c.alphabet u.piece s in
      let (r, kind, e) = refused_is (carry_in_words d (rules_in_words u.place place c u.piece takes) (stands (length_ends u.piece takes before at w) h)) in
      also_refused r kind (atom_refused_in_words s e)
  carry_word other (no_word s) w settled (both_next place t h) = also_refused _ refl (no_word s)
  carry_word other (word_missing s) w settled (both_next place t h) = also_refused _ refl (word_missing s)
  carry_word other word_at_end w settled both_ended = also_refused _ refl word_at_end
  carry_word other word_stopped w settled (both_stopped e) = also_refused _ e word_stopped

  -- one part of words in braces
  carry_part : {at : Standing} {place : ℕ} {c : Context} {ws : Words} {l m : Units} {o : Outcome Words} (other : ℕ) → ReadsPart place c ws l o → Front (InWords at) l m → Carried (InWords at) (ReadsPart other c ws m) o
  carry_part other (part_of_words b d) (both_next place t h) = also (carry_word other d within_words in_words (both_next place t h)) (λ p. part_of_words b)
  carry_part {at = at} other (box_in_words {c = c} {u = u} {box = box} b d) (both_next place t h) =
      let (n, alike, e) = read_is (carry_in_words d (box_rules u.place place c box) (stands (box_stays at u.piece box b) h)) in also_read n alike (box_in_words b e)
  carry_part {at = at} other (box_refused_in_words {c = c} {u = u} {box = box} b d) (both_next place t h) =
      let (r, kind, e) = refused_is (carry_in_words d (box_rules u.place place c box) (stands (box_stays at u.piece box b) h)) in also_refused r kind (box_refused_in_words b e)

  -- words in braces end with their brace
  carry_words : {at : Standing} {place : ℕ} {c : Context} {ws : Words} {l m : Units} {o : Outcome Words} (other : ℕ) → ReadsWords place c ws l o → Front (InWords at) l m → Carried at (ReadsWords other c ws m) o
  carry_words {at = at} other (words_end {u = u} s) (both_next {m = m} place t h) = also_read m (closed (InWords at) u.piece s h) (words_end s)
  carry_words other words_never_ended both_ended = also_refused _ refl words_never_ended
  carry_words other words_stopped (both_stopped e) = also_refused _ e words_stopped
  carry_words other (word_read s z j d ds) (both_next place t h) =
      let (n, alike, e) = read_is (carry_part other d (both_next place t h)) in
      also (carry_words other ds (fronts_of_words alike)) (λ p. word_read s z j e)
  carry_words other (word_refused s z j d) (both_next place t h) =
      let (r, kind, e) = refused_is (carry_part other d (both_next place t h)) in also_refused r kind (word_refused s z j e)
  carry_words {at = at} other (ligature_read {c = c} {ws = ws} {u = u} {first = first} j d) (both_next {m = m} place t h) =
      let both = joined_alike first (stands (start_stays ws.accent at c.alphabet u.piece j) h) in
      also (carry_words other d (fronts_of_words both.1)) (λ p e. ligature_read j (subst (λ k. ReadsWords other c (with_word ws (shown_character c.alphabet k)) (joined first m).1 p) both.0 e))
  carry_words {at = at} other (words_resized {c = c} {u = u} s d) (both_next place t h) =
      let alike = stands (size_changes c.alphabet u.piece s (InWords at) (InWords at) within_words t) h in
      let (n, left, e) = read_is (carry_words other d (fronts_of_words alike)) in
      also_read n left (words_resized s e)
  carry_words {at = at} other (words_resized_refused {c = c} {u = u} s d) (both_next place t h) =
      let alike = stands (size_changes c.alphabet u.piece s (InWords at) (InWords at) within_words t) h in
      let (r, kind, e) = refused_is (carry_words other d (fronts_of_words alike)) in
      also_refused r kind (words_resized_refused s e)
