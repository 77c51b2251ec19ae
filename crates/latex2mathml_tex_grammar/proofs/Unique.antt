-- Two outcomes of the same units are the same.
use Rattle.std.proofs.Common.{◌≡◌, ℕ, IsTrue, Option, Some, refl, ap, List, ◌∷◌, subst}
use Rattle.latex2mathml_elements.specs.Element.{Element}
use Rattle.latex2mathml_elements.specs.Columns.{Columns}
use Rattle.latex2mathml_tex_grammar.specs.{Atoms.Atom, Atoms.Before, Makes.Core, Makes.Scripts, Rows.Row, Rows.Operand}
use Rattle.latex2mathml_tex_grammar.specs.Reading.{Outcome, Read, Refused, ReadsRule, rule_gives, rule_refuses, operand_read, operand_refused, core_read, core_refused, core_missing, core_stopped, atoms_read, atoms_refused, words_read, words_refused, units_taken, units_missing, unit_follows, no_unit_follows, digits_taken, delimiter_taken, delimiter_missing, ReadsOperand, group_operand, group_refused, digit_operand, other_operand, other_refused, no_operand, operand_at_end, operand_stopped, ReadsScripts, scripts_end, mark_taken, script_read, script_refused, mark_refused, ReadsAtom, divider_read, divider_refused, on_empty_row, base_read, base_refused, ReadsAtoms, text_ends, never_ended, atoms_stopped, atoms_end, atom_read, atom_refused, rest_read, change_refused, ReadsWord, word_stands, group_of_words, formula_read, formula_refused, words_in_alphabet, no_word, word_missing, word_at_end, word_stopped, ReadsPart, part_of_words, box_in_words, box_refused_in_words, ReadsWords, words_end, words_never_ended, words_stopped, atom_in_words, atom_refused_in_words, word_read, word_refused, ligature_read, words_resized, words_resized_refused, found_taken, found_refused, passed_over, rows_read, rows_to_end, rows_refused, ReadsRows, cell_read, cell_refused, ReadsBehindCell, next_cell, arrow_read, arrow_refused, no_arrow, next_row, table_ends, text_ends_table}
use Rattle.latex2mathml_tex_grammar.specs.Rules.{Context, Ending, Rule, TableEnd}
use Rattle.latex2mathml_tex_grammar.specs.{Starts.step_of_mark, Starts.mark_of, Rests.with_resized, Starts.is_close, Symbols.Alphabet, Symbols.TextSize, Words.Words, Words.WordRule, Words.size_after, Words.with_accent_ended, Words.word_rule, Starts.cell_end, Rows.row_element, Tables.Lines, Tables.a_row}
use Rattle.latex2mathml_tex_grammar.specs.Units.{Piece, Space, Open, Close, Command, Character, Unit, Units}
use Rattle.latex2mathml_tex_grammar.proofs.Following.{ligature_moved, one_rest, rest_is, refused_alike, atom_or_change, core_is, group_is, operand_is, atom_is, rule_moved, taken_moved, found_moved, rows_moved, rows_moved_to_end, rows_next, next_row_next, one_end, one_sign, sign_or_none, arrow_is, arrow_moved, cell_moved, base_moved, atoms_moved, words_moved, one_step, same_second, ended_there, word_is, words_resized_to, scripts_go_on, script_moved}
use Rattle.latex2mathml_tex_grammar.specs.WordBoxes.{WordBox, box_rule}
use Rattle.latex2mathml_tex_grammar.proofs.Ligatures.{begins_none, start_no_size}

-- what closes words does not change their size
closes_no_size : (a : Option Alphabet) (piece : Piece) {size : TextSize} → IsTrue (is_close piece) → size_after (word_rule a piece) ≡ Some size → ⊥
closes_no_size a Close s t = cc
closes_no_size a Space s t = cc
closes_no_size a Open s t = cc
closes_no_size a (Command name) s t = cc
closes_no_size a (Character character) s t = cc

-- the same is made of words
same_box : (place : ℕ) (c : Context) {found : Option WordBox} {a b : WordBox} {l : Units} {o : Outcome Core} → found ≡ Some a → found ≡ Some b → ReadsRule (box_rule place c a) l o → ReadsRule (box_rule place c b) l o
same_box place c {a = a} {b = b} {l = l} {o = o} s t d = (let same : a ≡ b = cc in subst (λ box. ReadsRule (box_rule place c box) l o) same d)

-- the same words behind the same change of size
resized_alike : (r : WordRule) {a b : TextSize} {vs others : Words} {m n : Units} (c : Context) (before : List Element) → size_after r ≡ Some a → size_after r ≡ Some b → Read vs m ≡ Read others n → Read (with_resized a c before vs.elements) m ≡ Read (with_resized b c before others.elements) n
resized_alike r {a = a} {b = b} {vs} {others} {m} {n} c before s t e =
    let same : a ≡ b = cc in
    let words : vs ≡ others = cc in
    let left : m ≡ n = cc in
    rw (same, words, left) refl

mutual
  -- a rule has one outcome
  pub one_rule : {r : Rule} {l : Units} {o p : Outcome Core} → ReadsRule r l o → ReadsRule r l p → o ≡ p
  one_rule rule_gives rule_gives = refl
  one_rule rule_refuses rule_refuses = refl
  one_rule (operand_read {then = then} d ds) (operand_read e es) = one_rule ds (rule_moved then (one_operand d e) es)
  one_rule (operand_read d ds) (operand_refused e) = cc (one_operand d e)
  one_rule (operand_refused d) (operand_read e es) = cc (one_operand d e)
  one_rule (operand_refused d) (operand_refused e) = cc (one_operand d e)
  one_rule (atoms_read {then = then} d ds) (atoms_read e es) = one_rule ds (rule_moved then (one_atoms d e) es)
  one_rule (atoms_read d ds) (atoms_refused e) = cc (one_atoms d e)
  one_rule (atoms_refused d) (atoms_read e es) = cc (one_atoms d e)
  one_rule (atoms_refused d) (atoms_refused e) = cc (one_atoms d e)
  one_rule (words_read {then = then} d ds) (words_read e es) = one_rule ds (rule_moved then (one_word d e) es)
  one_rule (words_read d ds) (words_refused e) = cc (one_word d e)
  one_rule (words_refused d) (words_read e es) = cc (one_word d e)
  one_rule (words_refused d) (words_refused e) = cc (one_word d e)
  one_rule (core_read {c = c} {then = then} p d ds) (core_read q e es) = one_rule ds (rule_moved then (one_rule d (core_is c p q e)) es)
  one_rule (core_read {c = c} p d ds) (core_refused q e) = cc (one_rule d (core_is c p q e))
  one_rule (core_refused {c = c} p d) (core_read q e es) = cc (one_rule d (core_is c p q e))
  one_rule (core_refused {c = c} p d) (core_refused q e) = cc (one_rule d (core_is c p q e))
  one_rule (core_read p d ds) (core_missing q) = cc
  one_rule (core_read p d ds) (core_stopped q) = cc
  one_rule (core_refused p d) (core_missing q) = cc
  one_rule (core_refused p d) (core_stopped q) = cc
  one_rule (core_missing p) (core_read q e es) = cc
  one_rule (core_missing p) (core_refused q e) = cc
  one_rule (core_missing p) (core_missing q) = cc
  one_rule (core_missing p) (core_stopped q) = cc
  one_rule (core_stopped p) (core_read q e es) = cc
  one_rule (core_stopped p) (core_refused q e) = cc
  one_rule (core_stopped p) (core_missing q) = cc
  one_rule (core_stopped p) (core_stopped q) = cc
  one_rule (units_taken {then = then} p ds) (units_taken q es) = one_rule ds (taken_moved then p q es)
  one_rule (units_taken p ds) (units_missing q es) = cc
  one_rule (units_missing p ds) (units_taken q es) = cc
  one_rule (units_missing p ds) (units_missing q es) = one_rule ds es
  one_rule (unit_follows p d) (unit_follows q e) = one_rule d e
  one_rule (unit_follows p d) (no_unit_follows q e) = cc
  one_rule (no_unit_follows p d) (unit_follows q e) = cc
  one_rule (no_unit_follows p d) (no_unit_follows q e) = one_rule d e
  one_rule (digits_taken d) (digits_taken e) = one_rule d e
  one_rule (delimiter_taken {then = then} p ds) (delimiter_taken q es) = one_rule ds (taken_moved then p q es)
  one_rule (delimiter_taken p ds) (delimiter_missing q) = cc
  one_rule (delimiter_missing p) (delimiter_taken q es) = cc
  one_rule (delimiter_missing p) (delimiter_missing q) = refl
  one_rule (found_taken {then = then} p ds) (found_taken q es) = one_rule ds (found_moved then p q es)
  one_rule (found_taken p ds) (found_refused q) = cc
  one_rule (found_refused p) (found_taken q es) = cc
  one_rule (found_refused p) (found_refused q) = cc
  one_rule (passed_over d) (passed_over e) = one_rule d e
  one_rule (rows_read {then = then} d p ds) (rows_read e q es) = one_rule ds (rows_moved then (one_rows d e) p q es)
  one_rule (rows_read d p ds) (rows_refused e) = cc (one_rows d e)
  one_rule (rows_read d p ds) (rows_to_end e q es) = cc (one_rows d e)
  one_rule (rows_to_end d p ds) (rows_read e q es) = cc (one_rows d e)
  one_rule (rows_to_end {then = then} d p ds) (rows_to_end e q es) = one_rule ds (rows_moved_to_end then (one_rows d e) p q es)
  one_rule (rows_to_end d p ds) (rows_refused e) = cc (one_rows d e)
  one_rule (rows_refused d) (rows_read e q es) = cc (one_rows d e)
  one_rule (rows_refused d) (rows_to_end e q es) = cc (one_rows d e)
  one_rule (rows_refused d) (rows_refused e) = cc (one_rows d e)

  -- an operand has one outcome
  pub one_operand : {place : ℕ} {c : Context} {l : Units} {o p : Outcome Operand} → ReadsOperand place c l o → ReadsOperand place c l p → o ≡ p
  one_operand (group_operand {c = c} p s d) (group_operand q t e) = cc (one_atoms d (group_is p q e))
  one_operand (group_operand {c = c} p s d) (group_refused q t e) = cc (one_atoms d (group_is p q e))
  one_operand (group_refused {c = c} p s d) (group_operand q t e) = cc (one_atoms d (group_is p q e))
  one_operand (group_refused {c = c} p s d) (group_refused q t e) = cc (one_atoms d (group_is p q e))
  one_operand (other_operand {c = c} p s d) (other_operand q t e) = cc (one_rule d (core_is c p q e))
  one_operand (other_operand {c = c} p s d) (other_refused q t e) = cc (one_rule d (core_is c p q e))
  one_operand (other_refused {c = c} p s d) (other_operand q t e) = cc (one_rule d (core_is c p q e))
  one_operand (other_refused {c = c} p s d) (other_refused q t e) = cc (one_rule d (core_is c p q e))
  one_operand (group_operand p s d) (digit_operand q t) = cc
  one_operand (group_refused p s d) (digit_operand q t) = cc
  one_operand (group_operand p s d) (other_operand q t e) = cc
  one_operand (group_refused p s d) (other_operand q t e) = cc
  one_operand (group_operand p s d) (other_refused q t e) = cc
  one_operand (group_refused p s d) (other_refused q t e) = cc
  one_operand (group_operand p s d) (no_operand q t) = cc
  one_operand (group_refused p s d) (no_operand q t) = cc
  one_operand (group_operand p s d) (operand_at_end q) = cc
  one_operand (group_refused p s d) (operand_at_end q) = cc
  one_operand (group_operand p s d) (operand_stopped q) = cc
  one_operand (group_refused p s d) (operand_stopped q) = cc
  one_operand (digit_operand p s) (group_operand q t e) = cc
  one_operand (digit_operand p s) (group_refused q t e) = cc
  one_operand (digit_operand p s) (digit_operand q t) = cc
  one_operand (digit_operand p s) (other_operand q t e) = cc
  one_operand (digit_operand p s) (other_refused q t e) = cc
  one_operand (digit_operand p s) (no_operand q t) = cc
  one_operand (digit_operand p s) (operand_at_end q) = cc
  one_operand (digit_operand p s) (operand_stopped q) = cc
  one_operand (other_operand p s d) (group_operand q t e) = cc
  one_operand (other_operand p s d) (group_refused q t e) = cc
  one_operand (other_operand p s d) (digit_operand q t) = cc
  one_operand (other_operand p s d) (no_operand q t) = cc
  one_operand (other_operand p s d) (operand_at_end q) = cc
  one_operand (other_operand p s d) (operand_stopped q) = cc
  one_operand (other_refused p s d) (group_operand q t e) = cc
  one_operand (other_refused p s d) (group_refused q t e) = cc
  one_operand (other_refused p s d) (digit_operand q t) = cc
  one_operand (other_refused p s d) (no_operand q t) = cc
  one_operand (other_refused p s d) (operand_at_end q) = cc
  one_operand (other_refused p s d) (operand_stopped q) = cc
  one_operand (no_operand p s) (group_operand q t e) = cc
  one_operand (no_operand p s) (group_refused q t e) = cc
  one_operand (no_operand p s) (digit_operand q t) = cc
  one_operand (no_operand p s) (other_operand q t e) = cc
  one_operand (no_operand p s) (other_refused q t e) = cc
  one_operand (no_operand p s) (no_operand q t) = cc
  one_operand (no_operand p s) (operand_at_end q) = cc
  one_operand (no_operand p s) (operand_stopped q) = cc
  one_operand (operand_at_end p) (group_operand q t e) = cc
  one_operand (operand_at_end p) (group_refused q t e) = cc
  one_operand (operand_at_end p) (digit_operand q t) = cc
  one_operand (operand_at_end p) (other_operand q t e) = cc
  one_operand (operand_at_end p) (other_refused q t e) = cc
  one_operand (operand_at_end p) (no_operand q t) = cc
  one_operand (operand_at_end p) (operand_at_end q) = cc
  one_operand (operand_at_end p) (operand_stopped q) = cc
  one_operand (operand_stopped p) (group_operand q t e) = cc
  one_operand (operand_stopped p) (group_refused q t e) = cc
  one_operand (operand_stopped p) (digit_operand q t) = cc
  one_operand (operand_stopped p) (other_operand q t e) = cc
  one_operand (operand_stopped p) (other_refused q t e) = cc
  one_operand (operand_stopped p) (no_operand q t) = cc
  one_operand (operand_stopped p) (operand_at_end q) = cc
  one_operand (operand_stopped p) (operand_stopped q) = cc

  -- what follows an atom has one outcome
  one_scripts : {c : Context} {before : Before} {base : Atom} {scripts : Scripts} {l : Units} {o p : Outcome Atom} → ReadsScripts c before base scripts l o → ReadsScripts c before base scripts l p → o ≡ p
  one_scripts (scripts_end s) (scripts_end t) = refl
  one_scripts (mark_taken {c = c} {base = base} {scripts = k} p s d) (mark_taken q t e) = one_scripts d (scripts_go_on (λ u. step_of_mark k (mark_of u.piece)) p q s t e)
  one_scripts (script_read {c = c} {scripts = k} p s d ds) (script_read q t e es) = one_scripts ds (script_moved (λ u. step_of_mark k (mark_of u.piece)) p q s t (one_operand d (operand_is p q e)) es)
  one_scripts (script_read {c = c} p s d ds) (script_refused q t e) = cc (one_operand d (operand_is p q e))
  one_scripts (script_refused {c = c} p s d) (script_read q t e es) = cc (one_operand d (operand_is p q e))
  one_scripts (script_refused {c = c} p s d) (script_refused q t e) = cc (one_operand d (operand_is p q e))
  one_scripts (mark_refused {scripts = k} p s) (mark_refused q t) = ap Refused (same_second (λ u. step_of_mark k (mark_of u.piece)) p q s t)
  one_scripts (scripts_end {scripts = k} s) (mark_taken q t e) = absurd (ended_there k q s t)
  one_scripts (scripts_end {scripts = k} s) (script_read q t e es) = absurd (ended_there k q s t)
  one_scripts (scripts_end {scripts = k} s) (script_refused q t e) = absurd (ended_there k q s t)
  one_scripts (scripts_end {scripts = k} s) (mark_refused q t) = absurd (ended_there k q s t)
  one_scripts (mark_taken {scripts = k} p s d) (scripts_end t) = absurd (ended_there k p t s)
  one_scripts (mark_taken {scripts = k} p s d) (script_read q t e es) = cc (one_step (λ u. step_of_mark k (mark_of u.piece)) p q s t)
  one_scripts (mark_taken {scripts = k} p s d) (script_refused q t e) = cc (one_step (λ u. step_of_mark k (mark_of u.piece)) p q s t)
  one_scripts (mark_taken {scripts = k} p s d) (mark_refused q t) = cc (one_step (λ u. step_of_mark k (mark_of u.piece)) p q s t)
  one_scripts (script_read {scripts = k} p s d ds) (scripts_end t) = absurd (ended_there k p t s)
  one_scripts (script_read {scripts = k} p s d ds) (mark_taken q t e) = cc (one_step (λ u. step_of_mark k (mark_of u.piece)) p q s t)
  one_scripts (script_read {scripts = k} p s d ds) (mark_refused q t) = cc (one_step (λ u. step_of_mark k (mark_of u.piece)) p q s t)
  one_scripts (script_refused {scripts = k} p s d) (scripts_end t) = absurd (ended_there k p t s)
  one_scripts (script_refused {scripts = k} p s d) (mark_taken q t e) = cc (one_step (λ u. step_of_mark k (mark_of u.piece)) p q s t)
  one_scripts (script_refused {scripts = k} p s d) (mark_refused q t) = cc (one_step (λ u. step_of_mark k (mark_of u.piece)) p q s t)
  one_scripts (mark_refused {scripts = k} p s) (scripts_end t) = absurd (ended_there k p t s)
  one_scripts (mark_refused {scripts = k} p s) (mark_taken q t e) = cc (one_step (λ u. step_of_mark k (mark_of u.piece)) p q s t)
  one_scripts (mark_refused {scripts = k} p s) (script_read q t e es) = cc (one_step (λ u. step_of_mark k (mark_of u.piece)) p q s t)
  one_scripts (mark_refused {scripts = k} p s) (script_refused q t e) = cc (one_step (λ u. step_of_mark k (mark_of u.piece)) p q s t)

  -- an atom has one outcome
  one_atom : {ending : Ending} {c : Context} {before : Before} {u : Unit} {l : Units} {o p : Outcome Atom} → ReadsAtom ending c before u l o → ReadsAtom ending c before u l p → o ≡ p
  one_atom (divider_read s d) (divider_read t e) = cc (one_rule d e)
  one_atom (divider_read s d) (divider_refused t e) = cc (one_rule d e)
  one_atom (divider_refused s d) (divider_read t e) = cc (one_rule d e)
  one_atom (divider_refused s d) (divider_refused t e) = cc (one_rule d e)
  one_atom (on_empty_row s d) (on_empty_row t e) = one_scripts d e
  one_atom (base_read {c = c} s d ds) (base_read t e es) = one_scripts ds (base_moved (one_rule d e) es)
  one_atom (base_read s d ds) (base_refused t e) = cc (one_rule d e)
  one_atom (base_refused s d) (base_read t e es) = cc (one_rule d e)
  one_atom (base_refused s d) (base_refused t e) = cc (one_rule d e)
  one_atom (divider_read s d) (on_empty_row t e) = cc
  one_atom (divider_read s d) (base_read t e es) = cc
  one_atom (divider_read s d) (base_refused t e) = cc
  one_atom (divider_refused s d) (on_empty_row t e) = cc
  one_atom (divider_refused s d) (base_read t e es) = cc
  one_atom (divider_refused s d) (base_refused t e) = cc
  one_atom (on_empty_row s d) (divider_read t e) = cc
  one_atom (on_empty_row s d) (divider_refused t e) = cc
  one_atom (on_empty_row s d) (base_read t e es) = cc
  one_atom (on_empty_row s d) (base_refused t e) = cc
  one_atom (base_read s d ds) (divider_read t e) = cc
  one_atom (base_read s d ds) (divider_refused t e) = cc
  one_atom (base_read s d ds) (on_empty_row t e) = cc
  one_atom (base_refused s d) (divider_read t e) = cc
  one_atom (base_refused s d) (divider_refused t e) = cc
  one_atom (base_refused s d) (on_empty_row t e) = cc

  -- a sequence of atoms has one outcome
  pub one_atoms : {ending : Ending} {c : Context} {row : Row} {l : Units} {o p : Outcome Row} → ReadsAtoms ending c row l o → ReadsAtoms ending c row l p → o ≡ p
  one_atoms (atom_read {ending = ending} {c = c} {row = row} p s d ds) (atom_read q t e es) = one_atoms ds (atoms_moved row (one_atom d (atom_is p q e)) es)
  one_atoms (atom_read {ending = ending} {c = c} p s d ds) (atom_refused q t e) = cc (one_atom d (atom_is p q e))
  one_atoms (atom_refused {ending = ending} {c = c} p s d) (atom_read q t e es) = cc (one_atom d (atom_is p q e))
  one_atoms (atom_refused {ending = ending} {c = c} p s d) (atom_refused q t e) = cc (one_atom d (atom_is p q e))
  one_atoms (text_ends p s) (text_ends q t) = cc
  one_atoms (text_ends p s) (never_ended q t) = cc
  one_atoms (text_ends p s) (atoms_stopped q) = cc
  one_atoms (text_ends p s) (atoms_end q t) = cc
  one_atoms (text_ends p s) (atom_read q t e es) = cc
  one_atoms (text_ends p s) (atom_refused q t e) = cc
  one_atoms (never_ended p s) (text_ends q t) = cc
  one_atoms (never_ended p s) (never_ended q t) = cc
  one_atoms (never_ended p s) (atoms_stopped q) = cc
  one_atoms (never_ended p s) (atoms_end q t) = cc
  one_atoms (never_ended p s) (atom_read q t e es) = cc
  one_atoms (never_ended p s) (atom_refused q t e) = cc
  one_atoms (atoms_stopped p) (text_ends q t) = cc
  one_atoms (atoms_stopped p) (never_ended q t) = cc
  one_atoms (atoms_stopped p) (atoms_stopped q) = cc
  one_atoms (atoms_stopped p) (atoms_end q t) = cc
  one_atoms (atoms_stopped p) (atom_read q t e es) = cc
  one_atoms (atoms_stopped p) (atom_refused q t e) = cc
  one_atoms (atoms_end p s) (text_ends q t) = cc
  one_atoms (atoms_end p s) (never_ended q t) = cc
  one_atoms (atoms_end p s) (atoms_stopped q) = cc
  one_atoms (atoms_end p s) (atoms_end q t) = cc
  one_atoms (atoms_end p s) (atom_read q t e es) = cc
  one_atoms (atoms_end p s) (atom_refused q t e) = cc
  one_atoms (atom_read p s d ds) (text_ends q t) = cc
  one_atoms (atom_read p s d ds) (never_ended q t) = cc
  one_atoms (atom_read p s d ds) (atoms_stopped q) = cc
  one_atoms (atom_read p s d ds) (atoms_end q t) = cc
  one_atoms (atom_refused p s d) (text_ends q t) = cc
  one_atoms (atom_refused p s d) (never_ended q t) = cc
  one_atoms (atom_refused p s d) (atoms_stopped q) = cc
  one_atoms (atom_refused p s d) (atoms_end q t) = cc
  one_atoms (rest_read {ending = ending} {c = c} {row = row} p s t r d) (rest_read q z k f e) = one_atoms d (rest_is (one_rest ending c row p q t k r f) e)
  one_atoms (rest_read {ending = ending} {c = c} {row = row} p s t r d) (change_refused q z k f) = cc (one_rest ending c row p q t k r f)
  one_atoms (change_refused {ending = ending} {c = c} {row = row} p s t r) (rest_read q z k f e) = cc (one_rest ending c row p q t k r f)
  one_atoms (change_refused {ending = ending} {c = c} {row = row} p s t r) (change_refused q z k f) = ap Refused (refused_alike (one_rest ending c row p q t k r f))
  one_atoms (rest_read p s t r d) (text_ends q k) = cc
  one_atoms (rest_read p s t r d) (never_ended q k) = cc
  one_atoms (rest_read p s t r d) (atoms_stopped q) = cc
  one_atoms (rest_read p s t r d) (atoms_end q k) = cc
  one_atoms (rest_read p s t r d) (atom_read q k e es) = absurd (atom_or_change q p e t)
  one_atoms (rest_read p s t r d) (atom_refused q k e) = absurd (atom_or_change q p e t)
  one_atoms (change_refused p s t r) (text_ends q k) = cc
  one_atoms (change_refused p s t r) (never_ended q k) = cc
  one_atoms (change_refused p s t r) (atoms_stopped q) = cc
  one_atoms (change_refused p s t r) (atoms_end q k) = cc
  one_atoms (change_refused p s t r) (atom_read q k e es) = absurd (atom_or_change q p e t)
  one_atoms (change_refused p s t r) (atom_refused q k e) = absurd (atom_or_change q p e t)
  one_atoms (text_ends p s) (rest_read q t k f e) = cc
  one_atoms (never_ended p s) (rest_read q t k f e) = cc
  one_atoms (atoms_stopped p) (rest_read q t k f e) = cc
  one_atoms (atoms_end p s) (rest_read q t k f e) = cc
  one_atoms (atom_read p s d ds) (rest_read q t k f e) = absurd (atom_or_change p q d k)
  one_atoms (atom_refused p s d) (rest_read q t k f e) = absurd (atom_or_change p q d k)
  one_atoms (text_ends p s) (change_refused q t k f) = cc
  one_atoms (never_ended p s) (change_refused q t k f) = cc
  one_atoms (atoms_stopped p) (change_refused q t k f) = cc
  one_atoms (atoms_end p s) (change_refused q t k f) = cc
  one_atoms (atom_read p s d ds) (change_refused q t k f) = absurd (atom_or_change p q d k)
  one_atoms (atom_refused p s d) (change_refused q t k f) = absurd (atom_or_change p q d k)

  -- the rows of a table have one outcome
  one_rows : {end : TableEnd} {place : ℕ} {columns : Columns} {c : Context} {rows cells : List Element} {l : Units} {o p : Outcome Lines} → ReadsRows end place columns c rows cells l o → ReadsRows end place columns c rows cells l p → o ≡ p
  one_rows (cell_read d ds) (cell_read e es) = one_behind_cell ds (cell_moved (one_atoms d e) es)
  one_rows (cell_read d ds) (cell_refused e) = cc (one_atoms d e)
  one_rows (cell_refused d) (cell_read e es) = cc (one_atoms d e)
  one_rows (cell_refused d) (cell_refused e) = cc (one_atoms d e)

  one_behind_cell : {end : TableEnd} {place : ℕ} {columns : Columns} {c : Context} {rows cells cell : List Element} {l : Units} {o p : Outcome Lines} → ReadsBehindCell end place columns c rows cells cell l o → ReadsBehindCell end place columns c rows cells cell l p → o ≡ p
  one_behind_cell (next_cell p s d) (next_cell q t e) = one_rows d (rows_next (λ m. m) p q e)
  one_behind_cell (next_row {columns = columns} {rows = rows} {cells = cells} {cell = cell} p s d) (next_row q t e) = one_rows d (next_row_next (λ gap. a_row columns gap (row_element cell) cells ∷ rows) p q e)
  one_behind_cell (table_ends p s) (table_ends q t) = refl
  one_behind_cell (next_cell p s d) (next_row q t e) = cc (one_end (λ u. cell_end u.piece) p q s t)
  one_behind_cell (next_cell p s d) (table_ends q t) = cc (one_end (λ u. cell_end u.piece) p q s t)
  one_behind_cell (next_row p s d) (next_cell q t e) = cc (one_end (λ u. cell_end u.piece) p q s t)
  one_behind_cell (next_row p s d) (table_ends q t) = cc (one_end (λ u. cell_end u.piece) p q s t)
  one_behind_cell (table_ends p s) (next_cell q t e) = cc (one_end (λ u. cell_end u.piece) p q s t)
  one_behind_cell (table_ends p s) (next_row q t e) = cc (one_end (λ u. cell_end u.piece) p q s t)
  one_behind_cell (arrow_read {c = c} {cells = cells} {cell = cell} p s f d ds) (arrow_read q t g e es) = one_rows ds (arrow_moved cells cell (one_sign p q f g) (one_rule d (arrow_is p q c f g e)) es)
  one_behind_cell (arrow_read {c = c} p s f d ds) (arrow_refused q t g e) = cc (one_rule d (arrow_is p q c f g e))
  one_behind_cell (arrow_refused {c = c} p s f d) (arrow_read q t g e es) = cc (one_rule d (arrow_is p q c f g e))
  one_behind_cell (arrow_refused {c = c} p s f d) (arrow_refused q t g e) = cc (one_rule d (arrow_is p q c f g e))
  one_behind_cell (arrow_read p s f d ds) (no_arrow q t g) = absurd (sign_or_none p q f g)
  one_behind_cell (arrow_refused p s f d) (no_arrow q t g) = absurd (sign_or_none p q f g)
  one_behind_cell (no_arrow p s f) (arrow_read q t g e es) = absurd (sign_or_none q p g f)
  one_behind_cell (no_arrow p s f) (arrow_refused q t g e) = absurd (sign_or_none q p g f)
  one_behind_cell (no_arrow {u = u} p s f) (no_arrow {u = v} q t g) = (let unit : u ≡ v = cc in cc)
  one_behind_cell (arrow_read p s f d ds) (next_cell q t e) = cc (one_end (λ u. cell_end u.piece) p q s t)
  one_behind_cell (arrow_read p s f d ds) (next_row q t e) = cc (one_end (λ u. cell_end u.piece) p q s t)
  one_behind_cell (arrow_read p s f d ds) (table_ends q t) = cc (one_end (λ u. cell_end u.piece) p q s t)
  one_behind_cell (arrow_refused p s f d) (next_cell q t e) = cc (one_end (λ u. cell_end u.piece) p q s t)
  one_behind_cell (arrow_refused p s f d) (next_row q t e) = cc (one_end (λ u. cell_end u.piece) p q s t)
  one_behind_cell (arrow_refused p s f d) (table_ends q t) = cc (one_end (λ u. cell_end u.piece) p q s t)
  one_behind_cell (no_arrow p s f) (next_cell q t e) = cc (one_end (λ u. cell_end u.piece) p q s t)
  one_behind_cell (no_arrow p s f) (next_row q t e) = cc (one_end (λ u. cell_end u.piece) p q s t)
  one_behind_cell (no_arrow p s f) (table_ends q t) = cc (one_end (λ u. cell_end u.piece) p q s t)
  one_behind_cell (next_cell p s d) (arrow_read q t g e es) = cc (one_end (λ u. cell_end u.piece) p q s t)
  one_behind_cell (next_cell p s d) (arrow_refused q t g e) = cc (one_end (λ u. cell_end u.piece) p q s t)
  one_behind_cell (next_cell p s d) (no_arrow q t g) = cc (one_end (λ u. cell_end u.piece) p q s t)
  one_behind_cell (next_row p s d) (arrow_read q t g e es) = cc (one_end (λ u. cell_end u.piece) p q s t)
  one_behind_cell (next_row p s d) (arrow_refused q t g e) = cc (one_end (λ u. cell_end u.piece) p q s t)
  one_behind_cell (next_row p s d) (no_arrow q t g) = cc (one_end (λ u. cell_end u.piece) p q s t)
  one_behind_cell (table_ends p s) (arrow_read q t g e es) = cc (one_end (λ u. cell_end u.piece) p q s t)
  one_behind_cell (table_ends p s) (arrow_refused q t g e) = cc (one_end (λ u. cell_end u.piece) p q s t)
  one_behind_cell (table_ends p s) (no_arrow q t g) = cc (one_end (λ u. cell_end u.piece) p q s t)
  one_behind_cell (text_ends_table p) (text_ends_table q) = refl
  one_behind_cell (text_ends_table p) (arrow_read q t g e es) = cc
  one_behind_cell (arrow_read p s f d ds) (text_ends_table q) = cc
  one_behind_cell (text_ends_table p) (arrow_refused q t g e) = cc
  one_behind_cell (arrow_refused p s f d) (text_ends_table q) = cc
  one_behind_cell (text_ends_table p) (no_arrow q t g) = cc
  one_behind_cell (no_arrow p s f) (text_ends_table q) = cc
  one_behind_cell (text_ends_table p) (next_cell q t e) = cc
  one_behind_cell (text_ends_table p) (next_row q t e) = cc
  one_behind_cell (text_ends_table p) (table_ends q t) = cc
  one_behind_cell (next_cell p s d) (text_ends_table q) = cc
  one_behind_cell (next_row p s d) (text_ends_table q) = cc
  one_behind_cell (table_ends p s) (text_ends_table q) = cc

  -- a part of words has one outcome
  one_word : {place : ℕ} {c : Context} {ws : Words} {l : Units} {o p : Outcome Words} → ReadsWord place c ws l o → ReadsWord place c ws l p → o ≡ p
  one_word word_at_end word_at_end = refl
  one_word word_stopped word_stopped = refl
  one_word (group_of_words s d) (group_of_words t e) = one_words d e
  one_word (formula_read s d) (formula_read t e) = cc (one_atoms d e)
  one_word (formula_read s d) (formula_refused t e) = cc (one_atoms d e)
  one_word (formula_refused s d) (formula_read t e) = cc (one_atoms d e)
  one_word (formula_refused s d) (formula_refused t e) = cc (one_atoms d e)
  one_word (words_in_alphabet {c = c} s d) (words_in_alphabet t e) = one_word d (word_is c s t e)
  one_word (word_stands s) (word_stands t) = cc
  one_word (word_stands s) (group_of_words t e) = cc
  one_word (word_stands s) (formula_read t e) = cc
  one_word (word_stands s) (formula_refused t e) = cc
  one_word (word_stands s) (words_in_alphabet t e) = cc
  one_word (word_stands s) (no_word t) = cc
  one_word (word_stands s) (word_missing t) = cc
  one_word (group_of_words s d) (word_stands t) = cc
  one_word (group_of_words s d) (formula_read t e) = cc
  one_word (group_of_words s d) (formula_refused t e) = cc
  one_word (group_of_words s d) (words_in_alphabet t e) = cc
  one_word (group_of_words s d) (no_word t) = cc
  one_word (group_of_words s d) (word_missing t) = cc
  one_word (formula_read s d) (word_stands t) = cc
  one_word (formula_read s d) (group_of_words t e) = cc
  one_word (formula_read s d) (words_in_alphabet t e) = cc
  one_word (formula_read s d) (no_word t) = cc
  one_word (formula_read s d) (word_missing t) = cc
  one_word (formula_refused s d) (word_stands t) = cc
  one_word (formula_refused s d) (group_of_words t e) = cc
  one_word (formula_refused s d) (words_in_alphabet t e) = cc
  one_word (formula_refused s d) (no_word t) = cc
  one_word (formula_refused s d) (word_missing t) = cc
  one_word (words_in_alphabet s d) (word_stands t) = cc
  one_word (words_in_alphabet s d) (group_of_words t e) = cc
  one_word (words_in_alphabet s d) (formula_read t e) = cc
  one_word (words_in_alphabet s d) (formula_refused t e) = cc
  one_word (words_in_alphabet s d) (no_word t) = cc
  one_word (words_in_alphabet s d) (word_missing t) = cc
  one_word (no_word s) (word_stands t) = cc
  one_word (no_word s) (group_of_words t e) = cc
  one_word (no_word s) (formula_read t e) = cc
  one_word (no_word s) (formula_refused t e) = cc
  one_word (no_word s) (words_in_alphabet t e) = cc
  one_word (no_word s) (no_word t) = cc
  one_word (no_word s) (word_missing t) = cc
  one_word (word_missing s) (word_stands t) = cc
  one_word (word_missing s) (group_of_words t e) = cc
  one_word (word_missing s) (formula_read t e) = cc
  one_word (word_missing s) (formula_refused t e) = cc
  one_word (word_missing s) (words_in_alphabet t e) = cc
  one_word (word_missing s) (no_word t) = cc
  one_word (word_missing s) (word_missing t) = cc
  one_word (atom_in_words s d) (atom_in_words t e) = cc (one_rule d e)
  one_word (atom_in_words s d) (atom_refused_in_words t e) = cc (one_rule d e)
  one_word (atom_refused_in_words s d) (atom_in_words t e) = cc (one_rule d e)
  one_word (atom_refused_in_words s d) (atom_refused_in_words t e) = cc (one_rule d e)
  one_word (atom_in_words s d) (word_stands t) = cc
  one_word (word_stands s) (atom_in_words t e) = cc
  one_word (atom_in_words s d) (group_of_words t e) = cc
  one_word (group_of_words s d) (atom_in_words t e) = cc
  one_word (atom_in_words s d) (formula_read t e) = cc
  one_word (formula_read s d) (atom_in_words t e) = cc
  one_word (atom_in_words s d) (formula_refused t e) = cc
  one_word (formula_refused s d) (atom_in_words t e) = cc
  one_word (atom_in_words s d) (words_in_alphabet t e) = cc
  one_word (words_in_alphabet s d) (atom_in_words t e) = cc
  one_word (atom_in_words s d) (no_word t) = cc
  one_word (no_word s) (atom_in_words t e) = cc
  one_word (atom_in_words s d) (word_missing t) = cc
  one_word (word_missing s) (atom_in_words t e) = cc
  one_word (atom_refused_in_words s d) (word_stands t) = cc
  one_word (word_stands s) (atom_refused_in_words t e) = cc
  one_word (atom_refused_in_words s d) (group_of_words t e) = cc
  one_word (group_of_words s d) (atom_refused_in_words t e) = cc
  one_word (atom_refused_in_words s d) (formula_read t e) = cc
  one_word (formula_read s d) (atom_refused_in_words t e) = cc
  one_word (atom_refused_in_words s d) (formula_refused t e) = cc
  one_word (formula_refused s d) (atom_refused_in_words t e) = cc
  one_word (atom_refused_in_words s d) (words_in_alphabet t e) = cc
  one_word (words_in_alphabet s d) (atom_refused_in_words t e) = cc
  one_word (atom_refused_in_words s d) (no_word t) = cc
  one_word (no_word s) (atom_refused_in_words t e) = cc
  one_word (atom_refused_in_words s d) (word_missing t) = cc
  one_word (word_missing s) (atom_refused_in_words t e) = cc

  -- a sequence of words has one outcome
  one_part : {place : ℕ} {c : Context} {ws : Words} {l : Units} {o p : Outcome Words} → ReadsPart place c ws l o → ReadsPart place c ws l p → o ≡ p
  one_part (part_of_words b d) (part_of_words t e) = one_word d e
  one_part (box_in_words {c = c} {u = u} b d) (box_in_words t e) = cc (one_rule d (same_box u.place c t b e))
  one_part (box_in_words {c = c} {u = u} b d) (box_refused_in_words t e) = cc (one_rule d (same_box u.place c t b e))
  one_part (box_refused_in_words {c = c} {u = u} b d) (box_in_words t e) = cc (one_rule d (same_box u.place c t b e))
  one_part (box_refused_in_words {c = c} {u = u} b d) (box_refused_in_words t e) = cc (one_rule d (same_box u.place c t b e))
  one_part (part_of_words b d) (box_in_words t e) = cc
  one_part (part_of_words b d) (box_refused_in_words t e) = cc
  one_part (box_in_words b d) (part_of_words t e) = cc
  one_part (box_refused_in_words b d) (part_of_words t e) = cc

  one_words : {place : ℕ} {c : Context} {ws : Words} {l : Units} {o p : Outcome Words} → ReadsWords place c ws l o → ReadsWords place c ws l p → o ≡ p
  one_words words_never_ended words_never_ended = refl
  one_words words_stopped words_stopped = refl
  one_words (words_end s) (words_end t) = refl
  one_words (word_read s z j d ds) (word_read t y k e es) = one_words ds (words_moved (one_part d e) es)
  one_words (word_read s z j d ds) (word_refused t y k e) = cc (one_part d e)
  one_words (word_refused s z j d) (word_read t y k e es) = cc (one_part d e)
  one_words (word_refused s z j d) (word_refused t y k e) = cc (one_part d e)
  one_words (ligature_read {c = c} {ws = ws} {l = l} j d) (ligature_read k e) = one_words d (ligature_moved c ws l j k e)
  one_words (words_resized {c = c} {ws = ws} {u = u} s d) (words_resized t e) = resized_alike (word_rule c.alphabet u.piece) c (with_accent_ended ws).elements s t (one_words d (words_resized_to c (word_rule c.alphabet u.piece) s t e))
  one_words (words_resized {c = c} {u = u} s d) (words_resized_refused t e) = cc (one_words d (words_resized_to c (word_rule c.alphabet u.piece) s t e))
  one_words (words_resized_refused {c = c} {u = u} s d) (words_resized t e) = cc (one_words d (words_resized_to c (word_rule c.alphabet u.piece) s t e))
  one_words (words_resized_refused {c = c} {u = u} s d) (words_resized_refused t e) = cc (one_words d (words_resized_to c (word_rule c.alphabet u.piece) s t e))
  one_words (words_end s) (word_read t z k e es) = cc
  one_words (words_end s) (word_refused t z k e) = cc
  one_words (words_end {c = c} {u = u} s) (words_resized t e) = absurd (closes_no_size c.alphabet u.piece s t)
  one_words (words_end {c = c} {u = u} s) (words_resized_refused t e) = absurd (closes_no_size c.alphabet u.piece s t)
  one_words (word_read s z j d ds) (words_end t) = cc
  one_words (word_read s z j d ds) (words_resized t e) = cc
  one_words (word_read s z j d ds) (words_resized_refused t e) = cc
  one_words (word_refused s z j d) (words_end t) = cc
  one_words (word_refused s z j d) (words_resized t e) = cc
  one_words (word_refused s z j d) (words_resized_refused t e) = cc
  one_words (words_resized {c = c} {u = u} s d) (words_end t) = absurd (closes_no_size c.alphabet u.piece t s)
  one_words (words_resized s d) (word_read t z k e es) = cc
  one_words (words_resized s d) (word_refused t z k e) = cc
  one_words (words_resized_refused {c = c} {u = u} s d) (words_end t) = absurd (closes_no_size c.alphabet u.piece t s)
  one_words (words_resized_refused s d) (word_read t z k e es) = cc
  one_words (words_resized_refused s d) (word_refused t z k e) = cc
  one_words (words_end {c = c} {ws = ws} {u = u} s) (ligature_read k e) = absurd (begins_none ws.accent c.alphabet u.piece s k)
  one_words (ligature_read {c = c} {ws = ws} {u = u} j d) (words_end t) = absurd (begins_none ws.accent c.alphabet u.piece t j)
  one_words (word_read s z j d ds) (ligature_read k e) = cc
  one_words (word_refused s z j d) (ligature_read k e) = cc
  one_words (ligature_read j d) (word_read t z k e es) = cc
  one_words (ligature_read j d) (word_refused t z k e) = cc
  one_words (words_resized {c = c} {ws = ws} {u = u} s d) (ligature_read k e) = absurd (start_no_size ws.accent c.alphabet u.piece k s)
  one_words (words_resized_refused {c = c} {ws = ws} {u = u} s d) (ligature_read k e) = absurd (start_no_size ws.accent c.alphabet u.piece k s)
  one_words (ligature_read {c = c} {ws = ws} {u = u} j d) (words_resized t e) = absurd (start_no_size ws.accent c.alphabet u.piece j t)
  one_words (ligature_read {c = c} {ws = ws} {u = u} j d) (words_resized_refused t e) = absurd (start_no_size ws.accent c.alphabet u.piece j t)
