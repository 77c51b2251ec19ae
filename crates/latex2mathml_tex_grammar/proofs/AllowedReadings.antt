-- No reading of units has a text with a character that XML forbids, where the units have none.
use Rattle.std.proofs.Common.{ℕ, List, [], ◌∷◌, None, length, subst, reverse}
use Rattle.latex2mathml_elements.specs.{Characters.IsAllowed, Dollars.IsDollarFree, Element.Element, Element.children}
use Rattle.latex2mathml_elements.specs.Columns.{Columns}
use Rattle.latex2mathml_tex_grammar.specs.{RowGaps.gap_at, RowLines.line_next, Scanning.BeforeRow, Scanning.past_gap, Tables.Lines, Tables.a_row, Atoms.Atom, Atoms.Before, Atoms.After, Atoms.Nothing, DefinitionTexts.Defines, Delimiters.delimiter_of, Formulas.IsReading, Formulas.row_print, Formulas.row_print_with_source, Formulas.shown, Formulas.source_text, Laws.ReadingsAreAllowed, Macros.Table, Rows.Row, Rows.Operand, Rows.empty_row, Rows.lone, Rows.row_element, Symbols.Opening, Symbols.InDisplay, Symbols.Style, Separators.text_columns, Rows.with_atom}
use Rattle.latex2mathml_elements.proofs.{Annotated.annotated_print_as_elements, OneElement.print_as_elements}
use Rattle.latex2mathml_tex_grammar.specs.Makes.{Core, core, divider, is_display, number, Scripts}
use Rattle.latex2mathml_tex_grammar.specs.Reading.{Outcome, ReadsRule, rule_gives, rule_refuses, operand_read, operand_refused, core_read, core_refused, core_missing, core_stopped, atoms_read, atoms_refused, words_read, words_refused, units_taken, units_missing, unit_follows, no_unit_follows, digits_taken, delimiter_taken, delimiter_missing, ReadsOperand, group_operand, group_refused, digit_operand, other_operand, other_refused, no_operand, operand_at_end, operand_stopped, ReadsScripts, scripts_end, mark_taken, script_read, script_refused, mark_refused, ReadsAtom, divider_read, divider_refused, on_empty_row, base_read, base_refused, ReadsAtoms, text_ends, never_ended, atoms_stopped, atoms_end, atom_read, atom_refused, rest_read, change_refused, ReadsWord, word_stands, group_of_words, formula_read, formula_refused, words_in_alphabet, no_word, word_missing, word_at_end, word_stopped, ReadsPart, part_of_words, box_in_words, box_refused_in_words, ReadsWords, words_end, words_never_ended, words_stopped, atom_in_words, atom_refused_in_words, word_read, word_refused, ligature_read, words_resized, words_resized_refused, found_taken, found_refused, passed_over, rows_read, rows_refused, ReadsRows, cell_read, cell_refused, ReadsBehindCell, next_cell, arrow_read, arrow_refused, no_arrow, next_row, table_ends, rows_to_end, text_ends_table, Read, Refused}
use Rattle.latex2mathml_tex_grammar.specs.Diagrams.{arrow_of, fills_cell, sign_of_arrow}
use Rattle.latex2mathml_tex_grammar.specs.Rules.{Context, Ending, before_first, begun, Rule, gives, takes_delimiter, TableEnd, WholeText, InBraces, InBrackets, InDollars, InDelimiters, InCell, InLabel}
use Rattle.latex2mathml_tex_grammar.specs.Starts.{mark_of, left_behind}
use Rattle.latex2mathml_tex_grammar.specs.Units.{Unit, Units}
use Rattle.latex2mathml_tex_grammar.specs.Words.{Formula, Words, with_accent_ended, shown_character}
use Rattle.latex2mathml_tex_grammar.proofs.Allowed.{IsAllowedPiece, AreAllowedUnits, IsAllowedCore, IsAllowedAtom, IsAllowedOperand, IsAllowedPart, IsAllowedRest, IsAllowedRow, AreAllowedScripts, AreAllowedWords, IsAllowedWordRule, IsAllowedStep, IsAllowedRule, IsAllowedOutcome, AreAllowedElements, AreAllowedLines}
use Rattle.latex2mathml_tex_grammar.proofs.AllowedDiagrams.{arrow_allowed, before_allowed}
use Rattle.latex2mathml_tex_grammar.proofs.AllowedMakes.{lone_allowed, number_allowed, row_children_allowed, row_element_allowed, scripted_allowed, single_allowed, with_atom_allowed}
use Rattle.latex2mathml_tex_grammar.proofs.AllowedMacros.{expansion_allowed, macros_allowed}
use Rattle.latex2mathml_tex_grammar.proofs.AllowedRests.{finished_allowed, resized_allowed, rest_allowed}
use Rattle.latex2mathml_tex_grammar.proofs.AllowedRows.{given_allowed, lined_allowed, past_spot_allowed, past_break_allowed, a_row_allowed, with_last_allowed}
use Rattle.latex2mathml_tex_grammar.proofs.BoxedWords.{box_rule_allowed}
use Rattle.latex2mathml_tex_grammar.proofs.AllowedRules.{IsPlainStart, start_plain, delimiter_given, rule_allowed, step_allowed, accent_ended_allowed, with_word_allowed, word_rule_allowed, shown_character_allowed}
use Rattle.latex2mathml_tex_grammar.proofs.AllowedUnits.{digits_taken as digits_next_allowed, next_allowed, next_taken, past_allowed, units_allowed}
use Rattle.latex2mathml_tex_grammar.specs.Formulas.{ReadsFormula, as_atoms, as_rows, alone}
use Rattle.latex2mathml_tex_grammar.proofs.{AllowedMakes.with_atom_allowed, AllowedRests.finished_allowed, AllowedRows.a_table_allowed, Sources.source_allowed}
use Rattle.latex2mathml_tex_grammar.specs.Ligatures.{joined}
use Rattle.latex2mathml_tex_grammar.proofs.Ligatures.{joined_allowed, start_allowed}

divider_allowed : IsAllowedRule (takes_delimiter (λ sign_text. gives (core (divider sign_text))))
divider_allowed = λ sign_text h. h

nothing_read : (before : Before) → IsAllowedPart (record empty_row { before = before })
nothing_read before = record { elements = tt; before = tt; upper = tt }

left_allowed : (ending : Ending) (u : Unit) (m : Units) → IsAllowedPiece u.piece → AreAllowedUnits m → AreAllowedUnits (left_behind ending u m)
left_allowed WholeText u m h k = k
left_allowed (InBraces place) u m h k = k
left_allowed (InBrackets place) u m h k = k
left_allowed (InDollars place) u m h k = k
left_allowed (InDelimiters place) u m h k = k
left_allowed (InCell end place) u m h k = (h, k)
left_allowed (InLabel direction place) u m h k = (h, k)

mutual
  rules : {r : Rule} {l : Units} {o : Outcome Core} → ReadsRule r l o → IsAllowedRule r → AreAllowedUnits l → IsAllowedOutcome IsAllowedCore o
  rules rule_gives h k = (h, k)
  rules rule_refuses h k = tt
  rules (operand_read {x = x} d ds) h k = (let read = operands d k in rules ds (h x read.0) read.1)
  rules (operand_refused d) h k = tt
  rules (core_read {c = c} {l = l} {u = u} {x = x} p d ds) h k =
      let next = next_allowed l p k in
      let read = rules d (rule_allowed u.place c u.piece next.0) next.1 in
      rules ds (h x read.0) read.1
  rules (core_refused p d) h k = tt
  rules (core_missing p) h k = tt
  rules (core_stopped p) h k = tt
  rules (atoms_read {ending = ending} {row = row} d ds) h k = (let read = rows d (nothing_read (before_first ending)) k in rules ds (h row read.0) read.1)
  rules (atoms_refused d) h k = tt
  rules (words_read {l = l} {ws = ws} d ds) h k = (let read = words d (tt, tt) (past_allowed l k) in rules ds (h ws read.0) read.1)
  rules (words_refused d) h k = tt
  rules (units_taken {tests = tests} {l = l} {m = m} {texts = texts} p ds) h k =
      let taken = next_taken tests l m texts p k in rules ds (h.0 texts taken.0) taken.1
  rules (units_missing p ds) h k = rules ds h.1 k
  rules (unit_follows p d) h k = rules d h.0 k
  rules (no_unit_follows p d) h k = rules d h.1 k
  rules (digits_taken {l = l} d) h k = (let taken = digits_next_allowed l k in rules d (h _ taken.0) taken.1)
  rules (delimiter_taken {l = l} {m = m} {sign_text = sign_text} p ds) h k =
      let taken = next_taken (delimiter_of ∷ []) l m sign_text p k in rules ds (h sign_text (delimiter_given sign_text taken.0)) taken.1
  rules (delimiter_missing p) h k = tt
  rules (found_taken {spot = spot} {place = place} {l = l} {m = m} {text = text} e d) h k = rules d (h text) (given_allowed place l m spot text e k)
  rules (found_refused e) h k = tt
  rules (passed_over {spot = spot} {l = l} d) h k = rules d h (past_spot_allowed spot l k)
  rules (rows_read {l = l} {m = m} {u = u} {lines = lines} d p ds) h k =
      let read = tables d (lined_allowed (line_next l) [] tt) tt (past_spot_allowed BeforeRow l k) in rules ds (h lines u.place read.0) (next_allowed m p read.1).1
  rules (rows_to_end {at = at} {l = l} {lines = lines} d p ds) h k = (let read = tables d (lined_allowed (line_next l) [] tt) tt (past_spot_allowed BeforeRow l k) in rules ds (h lines at read.0) tt)
  rules (rows_refused d) h k = tt

  operands : {place : ℕ} {c : Context} {l : Units} {o : Outcome Operand} → ReadsOperand place c l o → AreAllowedUnits l → IsAllowedOutcome IsAllowedOperand o
  operands (group_operand {l = l} {row = row} p s d) k =
      let read = rows d (nothing_read Nothing) (next_allowed l p k).1 in (row_element_allowed row.elements read.0, read.1)
  operands (group_refused p s d) k = tt
  operands (digit_operand {c = c} {l = l} {u = u} {digit = digit} p s) k =
      (single_allowed c.style (number c.alphabet digit) (number_allowed c.alphabet digit (subst IsPlainStart s (start_plain u.piece))), (next_allowed l p k).1)
  operands (other_operand {c = c} {l = l} {u = u} {x = x} p s d) k =
      let next = next_allowed l p k in
      let read = rules d (rule_allowed u.place c u.piece next.0) next.1 in
      (single_allowed c.style x.atom read.0, read.1)
  operands (other_refused p s d) k = tt
  operands (no_operand p s) k = tt
  operands (operand_at_end p) k = tt
  operands (operand_stopped p) k = tt

  marks : {c : Context} {before : Before} {base : Atom} {scripts : Scripts} {l : Units} {o : Outcome Atom} → ReadsScripts c before base scripts l o → IsAllowedAtom base → AreAllowedScripts scripts → AreAllowedUnits l → IsAllowedOutcome IsAllowedAtom o
  marks (scripts_end {c = c} {before = before} {base = base} {scripts = scripts} s) h i k = (scripted_allowed c.style before base scripts h i, k)
  marks (mark_taken {scripts = scripts} {l = l} {u = u} p s d) h i k =
      marks d h (subst IsAllowedStep s (step_allowed scripts (mark_of u.piece) i)) (next_allowed l p k).1
  marks (script_read {scripts = scripts} {l = l} {u = u} {x = x} p s d ds) h i k =
      let read = operands d (next_allowed l p k).1 in
      marks ds h (subst IsAllowedStep s (step_allowed scripts (mark_of u.piece) i) x read.0) read.1
  marks (script_refused p s d) h i k = tt
  marks (mark_refused p s) h i k = tt

  atoms : {ending : Ending} {c : Context} {before : Before} {u : Unit} {l : Units} {o : Outcome Atom} → ReadsAtom ending c before u l o → IsAllowedPiece u.piece → AreAllowedUnits l → IsAllowedOutcome IsAllowedAtom o
  atoms (divider_read s d) h k = rules d divider_allowed k
  atoms (divider_refused s d) h k = tt
  atoms (on_empty_row s d) h k = marks d tt (tt, tt) (h, k)
  atoms (base_read {c = c} {u = u} s d ds) h k =
      let read = rules d (rule_allowed u.place c u.piece h) k in marks ds read.0 (tt, tt) read.1
  atoms (base_refused s d) h k = tt

  rows : {ending : Ending} {c : Context} {row : Row} {l : Units} {o : Outcome Row} → ReadsAtoms ending c row l o → IsAllowedPart row → AreAllowedUnits l → IsAllowedOutcome IsAllowedRow o
  rows (text_ends {c = c} {row = row} p s) h k = (finished_allowed c.style row h, tt)
  rows (never_ended p s) h k = tt
  rows (atoms_stopped p) h k = tt
  rows (atoms_end {ending = ending} {c = c} {row = row} {l = l} {m = m} {u = u} p s) h k = (let next = next_allowed l p k in (finished_allowed c.style row h, left_allowed ending u m next.0 next.1))
  rows (atom_read {c = c} {row = row} {l = l} {x = x} p s d ds) h k =
      let next = next_allowed l p k in
      let read = atoms d next.0 next.1 in
      rows ds (record { elements = with_atom_allowed c.style row x h.elements read.0; before = h.before; upper = h.upper }) read.1
  rows (atom_refused p s d) h k = tt
  rows (rest_read {c = c} {row = row} {change = change} {l = l} {m = m} {u = u} p s t e d) h k =
      let rest = subst IsAllowedRest e (rest_allowed change c row u.place m h (next_allowed l p k).1) in rows d rest.0 rest.1
  rows (change_refused p s t e) h k = tt

  tables : {end : TableEnd} {place : ℕ} {columns : Columns} {c : Context} {before cells : List Element} {l : Units} {o : Outcome Lines} → ReadsRows end place columns c before cells l o → AreAllowedElements before → AreAllowedElements cells → AreAllowedUnits l → IsAllowedOutcome AreAllowedLines o
  tables (cell_read {row = row} d ds) h i k = (let read = rows d (record { elements = tt; before = tt; upper = tt }) k in behind_cells ds h i (lone_allowed row.last row.elements read.0) read.1)
  tables (cell_refused d) h i k = tt

  behind_cells : {end : TableEnd} {place : ℕ} {columns : Columns} {c : Context} {before cells cell : List Element} {l : Units} {o : Outcome Lines} → ReadsBehindCell end place columns c before cells cell l o → AreAllowedElements before → AreAllowedElements cells → AreAllowedElements cell → AreAllowedUnits l → IsAllowedOutcome AreAllowedLines o
  behind_cells (next_cell {cell = cell} {l = l} p s d) h i j k = tables d h (row_element_allowed cell j, i) (next_allowed l p k).1
  behind_cells (arrow_read {c = c} {cells = cells} {cell = cell} {l = l} {m = m} {k = rest} {u = u} {sign = sign} p s f d ds) h i j k =
      let taken = next_taken (sign_of_arrow ∷ []) m rest sign f (next_allowed l p k).1 in
      let read = rules d (arrow_allowed u.place c (arrow_of sign)) taken.1 in
      tables ds h (read.0, before_allowed (fills_cell (arrow_of sign) (length cells) cell) cell cells j i) read.1
  behind_cells (arrow_refused p s f d) h i j k = tt
  behind_cells (no_arrow p s f) h i j k = tt
  behind_cells (next_row {columns = columns} {rows = before} {cells = cells} {cell = cell} {l = l} {m = m} p s d) h i j k =
      let row = a_row columns (gap_at m) (row_element cell) cells in
      let all = lined_allowed (line_next (past_gap m)) (row ∷ before) (a_row_allowed columns (gap_at m) (row_element cell) cells (row_element_allowed cell j) i, h) in
      tables d all tt (past_break_allowed m (next_allowed l p k).1)
  behind_cells (table_ends {columns = columns} {rows = before} {cells = cells} {cell = cell} p s) h i j k = (with_last_allowed columns before cells cell h i j, k)
  behind_cells (text_ends_table {columns = columns} {rows = before} {cells = cells} {cell = cell} p) h i j k = (with_last_allowed columns before cells cell h i j, k)

  words : {place : ℕ} {c : Context} {ws : Words} {l : Units} {o : Outcome Words} → ReadsWord place c ws l o → AreAllowedWords ws → AreAllowedUnits l → IsAllowedOutcome AreAllowedWords o
  words (word_stands {c = c} {ws = ws} {u = u} {w = w} s) h k =
      (with_word_allowed ws w h (subst IsAllowedWordRule s (word_rule_allowed c.alphabet u.piece k.0)), k.1)
  words (group_of_words s d) h k = word_lists d h k.1
  words (formula_read {ws = ws} {row = row} s d) h k =
      let read = rows d (nothing_read (After Opening)) k.1 in (with_word_allowed ws (Formula (row_element (lone row.last row.elements))) h (row_element_allowed (lone row.last row.elements) (lone_allowed row.last row.elements read.0)), read.1)
  words (formula_refused s d) h k = tt
  words (words_in_alphabet {l = l} s d) h k = words d h (past_allowed l k.1)
  words (atom_in_words {c = c} {ws = ws} {u = u} {x = x} s d) h k = (let read = rules d (rule_allowed u.place c u.piece k.0) k.1 in (with_word_allowed ws (Formula x.atom.element) h read.0, read.1))
  words (atom_refused_in_words s d) h k = tt
  words (no_word s) h k = tt
  words (word_missing s) h k = tt
  words word_at_end h k = tt
  words word_stopped h k = tt

  parts : {place : ℕ} {c : Context} {ws : Words} {l : Units} {o : Outcome Words} → ReadsPart place c ws l o → AreAllowedWords ws → AreAllowedUnits l → IsAllowedOutcome AreAllowedWords o
  parts (part_of_words b d) h k = words d h k
  parts (box_in_words {c = c} {ws = ws} {u = u} {box = box} {x = x} b d) h k =
      let read = rules d (box_rule_allowed u.place c u.piece box b) k.1 in (with_word_allowed ws (Formula x.atom.element) h read.0, read.1)
  parts (box_refused_in_words b d) h k = tt

  word_lists : {place : ℕ} {c : Context} {ws : Words} {l : Units} {o : Outcome Words} → ReadsWords place c ws l o → AreAllowedWords ws → AreAllowedUnits l → IsAllowedOutcome AreAllowedWords o
  word_lists (words_end {ws = ws} s) h k = (accent_ended_allowed ws h, k.1)
  word_lists words_never_ended h k = tt
  word_lists words_stopped h k = tt
  word_lists (word_read s z j d ds) h k = (let read = parts d h k in word_lists ds read.0 read.1)
  word_lists (word_refused s z j d) h k = tt
  word_lists (ligature_read {c = c} {ws = ws} {l = l} {u = u} {first = first} j d) h k =
      let found = joined_allowed first l (start_allowed ws.accent c.alphabet u.piece j k.0) k.1 in
      word_lists d (with_word_allowed ws (shown_character c.alphabet (joined first l).0) h (shown_character_allowed c.alphabet (joined first l).0 found.0)) found.1
  word_lists (words_resized {c = c} {ws = ws} {vs = vs} {size = size} s d) h k = (let read = word_lists d (tt, tt) k.1 in (resized_allowed size c (with_accent_ended ws).elements vs.elements (accent_ended_allowed ws h).0 read.0.0, read.1))
  word_lists (words_resized_refused s d) h k = tt

-- what the units of a formula are read as

alone_allowed : (style : Style) (o : Outcome Core) → IsAllowedOutcome IsAllowedCore o → IsAllowedOutcome IsAllowedRow (alone style o)
alone_allowed style (Read x m) h =
    let row = with_atom_allowed style (begun WholeText) x.atom tt h.0 in
    (finished_allowed style (with_atom style (begun WholeText) x.atom) (record { elements = row; before = tt; upper = tt }), h.1)
alone_allowed style (Refused r) h = tt

formula_allowed : {style : Style} {l : Units} {o : Outcome Row} → ReadsFormula style l o → AreAllowedUnits l → IsAllowedOutcome IsAllowedRow o
formula_allowed (as_atoms d s) k = rows d (nothing_read (After Opening)) k
formula_allowed {style} {l} (as_rows {p = p} d s t) k =
    alone_allowed style p (rules t (λ lines at h. a_table_allowed None (text_columns l) InDisplay style lines tt h) k)

pub reading_allowed : (definitions : List ℕ) (macros : Table) (text : List ℕ) (style : Style) (row : Row) → Defines definitions macros → IsReading macros text style row → IsAllowedRow row
unfolding IsReading
reading_allowed definitions macros text style row h (units, own, (end, d)) =
    (formula_allowed d (expansion_allowed own.expands (macros_allowed h) (units_allowed own.spelled))).0

shown_allowed : (definitions : List ℕ) (macros : Table) (text : List ℕ) (style : Style) (row : Row) → Defines definitions macros → IsReading macros text style row → AreAllowedElements (shown row)
shown_allowed definitions macros text style row h reading = lone_allowed row.last row.elements (reading_allowed definitions macros text style row h reading)

-- the markup of a reading holds no character that XML forbids, and no dollar sign
pub markup_allowed : (definitions : List ℕ) (macros : Table) (text : List ℕ) (style : Style) (row : Row) → Defines definitions macros → IsReading macros text style row → IsAllowed (row_print style row) × IsDollarFree (row_print style row)
markup_allowed definitions macros text style row h reading =
    let xs = children (reverse (shown row)) in
    let each = row_children_allowed (shown row) (shown_allowed definitions macros text style row h reading) in
    (print_as_elements.characters (is_display style) xs each, print_as_elements.dollars (is_display style) xs)

-- nor does the markup of a reading with its source
pub markup_with_source_allowed : (definitions : List ℕ) (macros : Table) (text : List ℕ) (style : Style) (row : Row) → Defines definitions macros → IsReading macros text style row → IsAllowed (row_print_with_source style text row) × IsDollarFree (row_print_with_source style text row)
markup_with_source_allowed definitions macros text style row h reading =
    let x = row_element (shown row) in
    let each = row_element_allowed (shown row) (shown_allowed definitions macros text style row h reading) in
    (annotated_print_as_elements.characters (is_display style) x (source_text text) each (source_allowed text), annotated_print_as_elements.dollars (is_display style) x (source_text text))

-- the law
pub readings_are_allowed : ReadingsAreAllowed
readings_are_allowed = record { elements = reading_allowed; markup = markup_allowed; markup_with_source = markup_with_source_allowed }
