-- A text has exactly one reading or exactly one refusal.
use Rattle.std.proofs.Common.{◌≡◌, ◌⊎◌, inl, inr, ℕ, List, ap, subst, refl, sym, ◌∙◌, Bool, true, false, ◌||◌, IsTrue, IsFalse, if◌then◌else◌}
use Rattle.latex2mathml_tex_grammar.specs.{Expanding.expansion, Expansion.most_units, Expansion.most_uses, Formulas.IsExpansion, Formulas.IsReading, Formulas.IsRefusal, Formulas.formula_context, Laws.AreMacrosTheirNames, Laws.HasOneReading, Macros.SameMacros, Macros.Table, Operands.none_due, Refusal.Refusal, Rows.Row, Rules.Context, Rules.WholeText, Rules.begun, Symbols.Style, Cutting.units_of, Units.Units, Units.End}
use Rattle.latex2mathml_tex_grammar.specs.Reading.{Outcome, Read, Refused, ReadsAtoms, text_ends, atoms_end, atom_read, rest_read, ReadsRule, rule_gives, rows_read, rows_to_end, ReadsRows, cell_read, ReadsBehindCell, next_cell, arrow_read, next_row, table_ends, text_ends_table}
use Rattle.latex2mathml_tex_grammar.proofs.{Expanding.expansion_is, Expanding.is_expanded, OneList.has_units, OneList.units_are, SameTables.expansion_same, Total.has_one_outcome, Unique.one_atoms, Spaces.next_stays, Total.rule_outcome, Unique.one_rule}
use Rattle.latex2mathml_tex_grammar.specs.Formulas.{ReadsFormula, as_atoms, as_rows, alone, asks_for_rows}
use Rattle.std.proofs.lemmas.Bool.{cases_Bool}
use Rattle.std.specs.Str.{byte}
use Rattle.latex2mathml_tex_grammar.specs.Makes.{Core}
use Rattle.latex2mathml_tex_grammar.specs.Next.{past_space}
use Rattle.latex2mathml_tex_grammar.specs.Rules.{ByText, InCell, rows_of_text}
use Rattle.latex2mathml_tex_grammar.specs.Separators.{text_columns}
use Rattle.latex2mathml_tex_grammar.specs.Starts.{PartsCells, BeginsArrow, EndsRow, EndsTable, ends, is_break, is_character}
use Rattle.latex2mathml_tex_grammar.specs.Tables.{Lines}
use Rattle.latex2mathml_tex_grammar.specs.Units.{Unit, Next}
use Rattle.latex2mathml_elements.specs.{Columns.Columns, Element.Element}
use Rattle.std.specs.Bool.{⊤}

-- a formula is read to the end of its text
pub to_the_end : {c : Context} {row other : Row} {l rest : Units} → ReadsAtoms WholeText c row l (Read other rest) → (end : ℕ) × (rest ≡ End end)
to_the_end (text_ends {at = at} p e) = (at, refl)
to_the_end (atoms_end p s) = cc
to_the_end (atom_read p s d ds) = to_the_end ds
to_the_end (rest_read p s t e d) = to_the_end d

-- so are the rows of a formula, which no unit ends

abbrev RestEndsCell : Units → Type 0
RestEndsCell l = (u : Unit) (m : Units) → past_space l ≡ Next u m → ends (InCell ByText 0) u.piece ≡ true

cell_leaves : {place : ℕ} {c : Context} {row other : Row} {l n : Units} → ReadsAtoms (InCell ByText place) c row l (Read other n) → RestEndsCell n
cell_leaves (text_ends p s) v k q = cc
cell_leaves (atoms_end {l = l} {m = m} {u = u} p s) v k q = (let stays : past_space (Next u m) ≡ Next u m = next_stays l u m p in let same : u ≡ v = cc in subst (λ u. ends (InCell ByText 0) u.piece ≡ true) same s)
cell_leaves (atom_read p s d ds) v k q = cell_leaves ds v k q
cell_leaves (rest_read p s t r d) v k q = cell_leaves d v k q

ends_no_table : (parts begins breaks : Bool) → parts || breaks ≡ true → (if parts then PartsCells else if begins then BeginsArrow else if breaks then EndsRow else EndsTable) ≡ EndsTable → ⊥
ends_no_table true begins breaks h e = cc
ends_no_table false true breaks h e = cc
ends_no_table false false true h e = cc
ends_no_table false false false h e = cc

mutual
  pub rows_end_text : {place : ℕ} {columns : Columns} {c : Context} {rows cells : List Element} {l n : Units} {lines : Lines} → ReadsRows ByText place columns c rows cells l (Read lines n) → (at : ℕ) × (past_space n ≡ End at)
  rows_end_text (cell_read d ds) = cell_ends_text ds (cell_leaves d)

  cell_ends_text : {place : ℕ} {columns : Columns} {c : Context} {rows cells cell : List Element} {l n : Units} {lines : Lines} → ReadsBehindCell ByText place columns c rows cells cell l (Read lines n) → RestEndsCell l → (at : ℕ) × (past_space n ≡ End at)
  cell_ends_text (next_cell p s d) left = rows_end_text d
  cell_ends_text (arrow_read p s f d ds) left = rows_end_text ds
  cell_ends_text (next_row p s d) left = rows_end_text d
  cell_ends_text (table_ends {u = u} p s) left = absurd (ends_no_table (is_character (byte "&") u.piece) (is_character (byte "@") u.piece) (is_break u.piece) (left u _ p) s)
  cell_ends_text (text_ends_table {at = at} p) left = (at, p)

abbrev pub EndsWithText : Outcome Row → Type 0
EndsWithText (Read row rest) = (end : ℕ) × (rest ≡ End end)
EndsWithText (Refused r) = ⊤

rule_to_the_end : (columns : Columns) (c : Context) (style : Style) (o : Outcome Core) {l : Units} → ReadsRule (rows_of_text columns c) l o → EndsWithText (alone style o)
rule_to_the_end columns c style (Read x rest) (rows_read d p ds) = (let (at, e) = rows_end_text d in cc (p, e))
rule_to_the_end columns c style (Read x rest) (rows_to_end {at = at} d p rule_gives) = (at, refl)
rule_to_the_end columns c style (Refused r) d = tt

atoms_to_the_end : {c : Context} (o : Outcome Row) {row : Row} {l : Units} → ReadsAtoms WholeText c row l o → EndsWithText o
atoms_to_the_end (Read row rest) d = to_the_end d
atoms_to_the_end (Refused r) d = tt

pub formula_to_the_end : {style : Style} {o : Outcome Row} {l : Units} → ReadsFormula style l o → EndsWithText o
formula_to_the_end {o = o} (as_atoms d s) = atoms_to_the_end o d
formula_to_the_end {style = style} {l = l} (as_rows {p = p} d s t) = rule_to_the_end (text_columns l) (formula_context style) style p t

-- the units that a text expands to
abbrev pub expanded : Table → List ℕ → Units
expanded macros text = expansion macros most_uses most_units none_due (units_of 0 text)

pub has_expansion : (macros : Table) (text : List ℕ) → IsExpansion macros text (expanded macros text)
has_expansion macros text = record { units = units_of 0 text; spelled = has_units 0 text; expands = is_expanded macros most_uses most_units none_due (units_of 0 text) }

pub expanded_are : {macros : Table} {text : List ℕ} {l : Units} → IsExpansion macros text l → expanded macros text ≡ l
expanded_are {macros} {text} e = ap (expansion macros most_uses most_units none_due) (units_are 0 text e.units e.spelled) ∙ expansion_is e.expands

-- a formula has one outcome

formula_outcome : (style : Style) (l : Units) → (o : Outcome Row) × ReadsFormula style l o
formula_outcome style l = (let (o, d) = (has_one_outcome WholeText (formula_context style) (begun WholeText) l).some in as_either d (cases_Bool (asks_for_rows o)))
  where
    as_either : {o : Outcome Row} → ReadsAtoms WholeText (formula_context style) (begun WholeText) l o → IsTrue (asks_for_rows o) ⊎ IsFalse (asks_for_rows o) → (o : Outcome Row) × ReadsFormula style l o
    as_either {o} d (inr s) = (o, as_atoms d s)
    as_either d (inl s) = (let (p, t) = rule_outcome (rows_of_text (text_columns l) (formula_context style)) l in (alone style p, as_rows d s t))

one_formula : {style : Style} {l : Units} {o p : Outcome Row} → ReadsFormula style l o → ReadsFormula style l p → o ≡ p
one_formula (as_atoms d s) (as_atoms e t) = one_atoms d e
one_formula (as_atoms d s) (as_rows e t rows) = cc (one_atoms d e)
one_formula (as_rows d s rows) (as_atoms e t) = cc (one_atoms d e)
one_formula {style} (as_rows d s rows) (as_rows e t others) = ap (alone style) (one_rule rows others)

-- two outcomes of a text are the same
one : {macros : Table} {text : List ℕ} {style : Style} {l m : Units} {o p : Outcome Row} → IsExpansion macros text l → IsExpansion macros text m → ReadsFormula style l o → ReadsFormula style m p → o ≡ p
one {style = style} {l = l} {m = m} {p = p} has also d e =
    let same : m ≡ l = cc (expanded_are has, expanded_are also) in
    one_formula d (subst (λ k. ReadsFormula style k p) same e)

some_reading : (macros : Table) (text : List ℕ) (style : Style) → (o : Outcome Row) × ReadsFormula style (expanded macros text) o → ((row : Row) × IsReading macros text style row) ⊎ ((r : Refusal) × IsRefusal macros text style r)
unfolding IsReading IsRefusal
some_reading macros text style (Read row rest, d) =
    let (end, e) = formula_to_the_end d in inl (row, (expanded macros text, has_expansion macros text, (end, subst (λ m. ReadsFormula style (expanded macros text) (Read row m)) e d)))
some_reading macros text style (Refused r, d) = inr (r, (expanded macros text, has_expansion macros text, d))

-- the law
pub has_one_reading : (macros : Table) (text : List ℕ) (style : Style) → HasOneReading macros text style
unfolding IsReading IsRefusal
has_one_reading macros text style = record {
  some = some_reading macros text style (formula_outcome style (expanded macros text));
  one_reading = λ xs ys a b. (let same = one a.1 b.1 a.2.1 b.2.1 in cc same);
  one_refusal = λ r q a b. (let same = one a.1 b.1 a.2 b.2 in cc same);
  never_both = λ xs r a b. (let same = one a.1 b.1 a.2.1 b.2 in cc same);
}

-- what a text expands to where other macros hold for which each name means the same
pub same_expansion : {macros others : Table} {text : List ℕ} {l : Units} → SameMacros macros others → IsExpansion macros text l → IsExpansion others text l
same_expansion {macros} {others} {text} same e =
    subst (IsExpansion others text) (sym (expansion_same macros others most_uses most_units none_due (units_of 0 text) same) ∙ expanded_are e) (has_expansion others text)

-- the law
pub are_macros_their_names : AreMacrosTheirNames
unfolding IsReading IsRefusal
are_macros_their_names = record {
  readings = λ macros others text style row same (l, e, d). (l, same_expansion same e, d);
  refusals = λ macros others text style r same (l, e, d). (l, same_expansion same e, d);
}
