-- From the parser's last state to the answer.
use Rattle.std.proofs.Common.{◌≡◌, ◌∙◌, ℕ, Bool, true, false, List, [], ◌∷◌, ◌++◌, IfOk, IfSome, IsFalse, IsTrue, MatchOption, Option, Some, None, Result, Ok, Err, ap, drop, option_map, refl, reverse, subst, sym, take}
use Rattle.std.specs.{Prelude.⊤, Str.chars}
use Rattle.latex2mathml_elements.specs.{Annotated.IsAnnotatedMathElement, Annotated.annotated_print, Characters.IsAllowed, Dollars.IsDollarFree, Element.Element, Element.children, Print.formula_print}
use Rattle.latex2mathml_elements.proofs.{Annotated.annotated_print_as_elements, OneElement.print_as_elements}
use Rattle.latex2mathml_trees.specs.MathSchema.{IsMathElement}
use Rattle.latex2mathml_tex_grammar.specs.{Atoms.Atom, Atoms.Before, DefinitionTexts.Defines, Macros.SameMacros, Macros.Table, Makes.Core, Makes.is_display, Makes.no_scripts, Meaning.Beside, Refusal.Kind, Refusal.Refusal, Refusal.refusal_at, Rests.finished, Rows.Row, Rows.row_element, Rows.with_atom, Symbols.Style}
use Rattle.latex2mathml_tex_grammar.specs.Formulas.{IsExpansion, IsReading, ReadsFormula, as_atoms, as_rows, formula_context, is_outside, row_print, row_print_with_source, shown, source_text}
use Rattle.latex2mathml_tex_grammar.specs.Formulas as formula
use Rattle.latex2mathml_tex_grammar.specs.Reading.{Outcome, Read, Refused, ReadsAtoms, text_ends, never_ended, atoms_stopped, atoms_end, atom_read, atom_refused, rest_read, change_refused, ReadsRule, rule_gives, rows_read, rows_to_end, ReadsScripts, scripts_end, mark_taken, script_read, script_refused, mark_refused}
use Rattle.latex2mathml_tex_grammar.specs.{Rules.WholeText, Rules.begun, Rules.rows_of_text, Separators.text_columns, Units.End, Units.Units}
use Rattle.latex2mathml_tex_grammar.proofs.{AllowedReadings.markup_allowed, AllowedReadings.markup_with_source_allowed, Readings.expanded, Readings.has_expansion, Readings.rows_end_text, Readings.same_expansion}
use Rattle.latex2mathml_tex_units.specs.MacroTables.{macros_in}
use Rattle.latex2mathml_tex_commands.specs.Meanings.{style_of}
use Rattle.latex2mathml_tex.specs.{Answers.IsAnswer, Answers.IsAnswerWithSource, Answers.IsRefusal, Levels.CoreMade, Levels.RuleLeads, ReadRows.AreUppermost, ReadRows.HasCome}
use Rattle.latex2mathml_tex_atoms.specs.Models.{top}
use Rattle.latex2mathml_tex_units.specs.Errors.{is_outside_kind, kind_of_error, refusal_of}
use Rattle.latex2mathml_tex.specs.Frames.{ReadsAs, Start, Whole, context_at, inside, whole_level}
use Rattle.latex2mathml_tex.specs.Steps.{Begins, Holds, Ready, elements_of, last_state, left_of, level, start_of}
use Rattle.std.specs.declared.alloc.AllocError.{AllocError}
use Rattle.latex2mathml_tex_commands.specs.declared.meaning.Style.{Style as CodeStyle}
use Rattle.latex2mathml_tex_units.specs.declared.{error.TexError.TexError, error.TexErrorKind.TexErrorKind, macros.table.Macros.Macros}
use Rattle.latex2mathml_tex.specs.declared.parse.{Form.Form, Parser.Parser}
use Rattle.latex2mathml_tex_units.specs.declared.error.TexErrorKind.TheVariants as kind
use Rattle.latex2mathml_tex.specs.declared.parse.Form.TheVariants as form
use Rattle.latex2mathml_tex.specs.declared.parse.State.TheVariants as state

-- before the first step the outcome of the formula is that of its units as atoms
pub begins : (p : Parser) → p.frames.stack.items ≡ [] → Holds (start_of form.Atoms p) p state.Next
begins p e = record { style = refl; claims = rw e (λ o d. d) }

-- before the first step the outcome of the formula is that of its units as rows, which are one atom

only_atom : (style : Style) (before : Before) (base : Atom) (o : Outcome Atom) {at : ℕ} → ReadsScripts (formula_context style) before base (no_scripts base.kind Beside) (End at) o → o ≡ Read base (End at)
only_atom style before base o (scripts_end s) = refl
only_atom style before base o (mark_taken p s d) = cc
only_atom style before base o (script_read p s d ds) = cc
only_atom style before base o (script_refused p s d) = cc
only_atom style before base o (mark_refused p s) = cc

only_row : (style : Style) (row : Row) (o : Outcome Row) {at : ℕ} → ReadsAtoms WholeText (formula_context style) row (End at) o → o ≡ Read (finished style row) (End at)
only_row style row o (text_ends p s) = cc
only_row style row o (never_ended p s) = cc
only_row style row o (atoms_stopped p) = cc
only_row style row o (atoms_end p s) = cc
only_row style row o (atom_read p s d ds) = cc
only_row style row o (atom_refused p s d) = cc
only_row style row o (rest_read p s t r d) = cc
only_row style row o (change_refused p s t r) = cc

rows_made : (s : Start) (l : Units) → s.units ≡ l → s.form ≡ form.Rows → (o : Outcome Core) → ReadsRule (rows_of_text (text_columns l) (formula_context s.style)) l o → CoreMade (whole_level s) o
rows_made s l same rows (Refused r) d = rw rows (Refused r, rw same d, refl)
rows_made s l same rows (Read x m) (rows_read e p rule_gives) = (let (at, end) = rows_end_text e in cc (p, end))
rows_made s l same rows (Read x m) (rows_to_end {at = at} {lines = lines} e p rule_gives) = λ o scripts.
    rw (only_atom s.style _ x.atom o scripts) (λ q d.
    rw (only_row s.style (with_atom s.style (begun WholeText) x.atom) q d, rows) (Read x (End at), rw same (rows_to_end e p rule_gives), refl))

pub begins_rows : (p : Parser) → p.frames.stack.items ≡ [] → Begins (rows_of_text (text_columns (left_of p)) (context_at (level 0 (start_of form.Rows p) p))) 0 (start_of form.Rows p) p
begins_rows p e =
    let s = start_of form.Rows p in
    let xs = elements_of p in
    record {
      style = refl;
      leads = subst (λ fs. RuleLeads (rows_of_text (text_columns (left_of p)) (context_at (inside s fs xs))) (CoreMade (inside s fs xs)) (left_of p)) (sym e) (record { to = rows_made s (left_of p) refl refl });
    }

-- the last state says what a formula that is read in this form comes to
has_come : (read : Form) (p q : Parser) (found : Option ℕ) → Holds (start_of read p) q (last_state found) → Ready q (last_state found)
    → HasCome (ReadsAs read (style_of p.style) (left_of p)) found q.refusal (elements_of q)
has_come read p q (Some count) h ready =
    let (row, at, same, d) = h.claims in
    (row, (at, d, record { elements = same; all = ready.may_come }))
has_come read p q None h ready = refused (refusal_of q.refusal) h.claims
  where
    refused : (o : Option Refusal) → IfSome o (λ r. Whole (start_of read p) (Refused r)) → IfSome o (λ r. ReadsAs read (style_of p.style) (left_of p) (Refused r))
    refused None h = h
    refused (Some r) d = d

-- the same of the result of reading, for units and a style that are those of the parser
pub come : (read : Form) (style : CodeStyle) (l : Units) (p q : Parser) (result : Result (Option ℕ) AllocError) → left_of p ≡ l → p.style ≡ style
    → IfOk result (λ found. Holds (start_of read p) q (last_state found))
    → IfOk result (λ found. Ready q (last_state found))
    → IfOk result (λ found. HasCome (ReadsAs read (style_of style) l) found q.refusal (elements_of q))
come read style l p q (Ok found) units same h ready =
    subst (λ l. HasCome (ReadsAs read (style_of style) l) found q.refusal (elements_of q)) units
    (subst (λ s. HasCome (ReadsAs read (style_of s) (left_of p)) found q.refusal (elements_of q)) same (has_come read p q found h ready))
come read style l p q (Err error) units same h ready = tt

-- Reading as atoms, and then as rows, if the atoms are refused because of `&` or `\\`

abbrev is_outside_found : Option Kind → Bool
is_outside_found None = false
is_outside_found (Some k) = is_outside k

found_outside : (k : TexErrorKind) → is_outside_kind k ≡ is_outside_found (kind_of_error k)
found_outside kind.OutsideTable = refl
found_outside k = refl

-- units may be read in this form: as rows only if they are refused as atoms because of `&` or `\\`
abbrev pub MayBeRead : Form → Style → Units → Type 0
MayBeRead form.Atoms style l = ⊤
MayBeRead form.Rows style l = (r : Refusal) × ReadsAs form.Atoms style l (Refused r) × (is_outside r.kind ≡ true)

-- what holds of the refusal of `&` or `\\`
outside_so : (P : Refusal → Type 0) (found : Option Kind) (place : ℕ) → is_outside_found found ≡ true → IfSome (option_map (λ k. refusal_at k place) found) P → (r : Refusal) × P r × (is_outside r.kind ≡ true)
outside_so P None place s h = cc
outside_so P (Some k) place s h = (refusal_at k place, h, s)

-- units that are refused as atoms because of `&` or `\\` may be read as rows
pub rows_next : (read : Form) (style : Style) (l : Units) (found : Option ℕ) (error : TexError) (xs : List Element) → (read ≡ form.Atoms) × (found ≡ None) × IsTrue (is_outside_kind error.kind)
    → HasCome (ReadsAs read style l) found error xs → MayBeRead form.Rows style l
rows_next form.Atoms style l None error xs (a, n, s) h =
    outside_so (λ r. ReadsAs form.Atoms style l (Refused r)) (kind_of_error error.kind) error.place (sym (found_outside error.kind) ∙ s) h
rows_next form.Atoms style l (Some n) error xs (a, is, s) h = cc
rows_next form.Rows style l found error xs (a, n, s) h = cc

-- what holds of other refusals
others_so : (P Q : Refusal → Type 0) (found : Option Kind) (place : ℕ) → is_outside_found found ≡ false → ((r : Refusal) → is_outside r.kind ≡ false → P r → Q r) → IfSome (option_map (λ k. refusal_at k place) found) P → IfSome (option_map (λ k. refusal_at k place) found) Q
others_so P Q None place s f h = tt
others_so P Q (Some k) place s f h = f (refusal_at k place) s h

-- what the units come to as atoms, if that is no refusal because of `&` or `\\`
come_as_atoms : (style : Style) (l : Units) (found : Option ℕ) (error : TexError) (xs : List Element) → (found ≡ None → IsFalse (is_outside_kind error.kind))
    → HasCome (ReadsAs form.Atoms style l) found error xs → HasCome (ReadsFormula style l) found error xs
come_as_atoms style l (Some n) error xs s (row, (at, d, upper)) = (row, (at, as_atoms d refl, upper))
come_as_atoms style l None error xs s h =
    others_so (λ r. ReadsAs form.Atoms style l (Refused r)) (λ r. ReadsFormula style l (Refused r)) (kind_of_error error.kind) error.place (sym (found_outside error.kind) ∙ s refl) (λ r t d. as_atoms d t) h

-- what the units come to as rows
module _ (style : Style) (l : Units) (r : Refusal) (asked : ReadsAs form.Atoms style l (Refused r)) (s : is_outside r.kind ≡ true) where
  rows_refuse : (o : Option Refusal) → IfSome o (λ q. ReadsAs form.Rows style l (Refused q)) → IfSome o (λ q. ReadsFormula style l (Refused q))
  rows_refuse None h = tt
  rows_refuse (Some q) (p, t, e) = subst (ReadsFormula style l) (sym e) (as_rows asked s t)

  come_as_rows : (found : Option ℕ) (error : TexError) (xs : List Element) → HasCome (ReadsAs form.Rows style l) found error xs → HasCome (ReadsFormula style l) found error xs
  come_as_rows (Some n) error xs (row, (at, (p, t, e), upper)) = (row, (at, subst (ReadsFormula style l) (sym e) (as_rows asked s t), upper))
  come_as_rows None error xs h = rows_refuse (refusal_of error) h

-- what the units come to in the form in which they are read last
pub come_at_last : (read : Form) (style : Style) (l : Units) (found : Option ℕ) (error : TexError) (xs : List Element) → MayBeRead read style l
    → (read ≡ form.Atoms → found ≡ None → IsFalse (is_outside_kind error.kind))
    → HasCome (ReadsAs read style l) found error xs → HasCome (ReadsFormula style l) found error xs
come_at_last form.Atoms style l found error xs may s h = come_as_atoms style l found error xs (s refl) h
come_at_last form.Rows style l found error xs (r, asked, is) s h = come_as_rows style l r asked is found error xs h

-- what is left to read is what the text expands to
pub expands_so : (m : Macros) (table : Table) (text : List ℕ) (l : Units) → l ≡ expanded (macros_in m) text → SameMacros table (macros_in m) → IsExpansion table text l
expands_so m table text l e same = same_expansion (λ name. sym (same name)) (rw e (has_expansion (macros_in m) text))

-- why the units are refused is why the text is
refusal_is : (o : Option Refusal) (table : Table) (tex : List ℕ) (l : Units) (style : Style) → IsExpansion table (chars tex) l → IfSome o (λ r. ReadsFormula style l (Refused r)) → IfSome o (IsRefusal table tex style)
unfolding formula.IsRefusal
refusal_is None table tex l style units h = tt
refusal_is (Some r) table tex l style units d = (l, units, d)

-- what the units of a text come to is a reading of the text, or a refusal of it
pub read_text : (found : Option ℕ) (error : TexError) (table : Table) (tex : List ℕ) (l : Units) (read style : Style) (xs : List Element) → IsExpansion table (chars tex) l → read ≡ style
    → HasCome (ReadsFormula read l) found error xs
    → MatchOption found (IfSome (refusal_of error) (IsRefusal table tex style)) (λ n. (row : Row) × IsReading table (chars tex) style row × AreUppermost row n xs)
unfolding IsReading
read_text (Some n) error table tex l read style xs units e (row, (at, d, upper)) = (row, (l, units, (at, subst (λ s. ReadsFormula s l (Read row (End at))) e d)), upper)
read_text None error table tex l read style xs units e h = refusal_is (refusal_of error) table tex l style units (subst (λ s. IfSome (refusal_of error) (λ r. ReadsFormula s l (Refused r))) e h)

-- what was appended is an answer
pub answered : (table : Table) (tex : List ℕ) (style : Style) (count : ℕ) (xs : List Element) (old new : List ℕ) → (row : Row) × IsReading table (chars tex) style row × AreUppermost row count xs → new ≡ old ++ formula_print (is_display style) (children (reverse (take count xs))) → (markup : List ℕ) × IsAnswer table tex style markup × (new ≡ old ++ markup)
answered table tex style count xs old new (row, reading, upper) is =
    let markup : new ≡ old ++ row_print style row = rw upper.elements is in
    (row_print style row, (row, reading, refl), markup)

-- what was appended is an answer with its source
pub answered_with_source : (table : Table) (tex : List ℕ) (style : Style) (count : ℕ) (xs ys : List Element) (old new : List ℕ) → (row : Row) × IsReading table (chars tex) style row × AreUppermost row count xs → ys ≡ row_element (take count xs) ∷ drop count xs → new ≡ old ++ annotated_print (is_display style) (top ys) (source_text (chars tex)) → (markup : List ℕ) × IsAnswerWithSource table tex style markup × (new ≡ old ++ markup)
answered_with_source table tex style count xs ys old new (row, reading, upper) one is =
    let first : top ys ≡ row_element (shown row) = rw upper.elements (ap top one) in
    let markup : new ≡ old ++ row_print_with_source style (chars tex) row = is ∙ ap (λ x. old ++ annotated_print (is_display style) x (source_text (chars tex))) first in
    (row_print_with_source style (chars tex) row, (row, reading, refl), markup)

-- An answer is one `math` element, and can be in a page of XML or between dollar signs.

pub one_element : (macros : Table) (tex : List ℕ) (style : Style) (markup : List ℕ) → IsAnswer macros tex style markup → IsMathElement markup
one_element macros tex style markup (row, reading, is) = rw is (print_as_elements.formulas (is_display style) (children (reverse (shown row))))

pub sound_text : (definitions : List ℕ) (macros : Table) (tex : List ℕ) (style : Style) (markup : List ℕ) → Defines definitions macros → IsAnswer macros tex style markup → IsAllowed markup
sound_text definitions macros tex style markup h (row, reading, is) = rw is (markup_allowed definitions macros (chars tex) style row h reading).0

pub no_dollar : (macros : Table) (tex : List ℕ) (style : Style) (markup : List ℕ) → IsAnswer macros tex style markup → IsDollarFree markup
no_dollar macros tex style markup (row, reading, is) = rw is (print_as_elements.dollars (is_display style) (children (reverse (shown row))))

-- An answer with its source is one `math` element, and can be in a page of XML or between dollar signs.

pub one_element_with_source : (macros : Table) (tex : List ℕ) (style : Style) (markup : List ℕ) → IsAnswerWithSource macros tex style markup → IsAnnotatedMathElement markup
one_element_with_source macros tex style markup (row, reading, is) = rw is (annotated_print_as_elements.formulas (is_display style) (row_element (shown row)) (source_text (chars tex)))

pub sound_text_with_source : (definitions : List ℕ) (macros : Table) (tex : List ℕ) (style : Style) (markup : List ℕ) → Defines definitions macros → IsAnswerWithSource macros tex style markup → IsAllowed markup
sound_text_with_source definitions macros tex style markup h (row, reading, is) = rw is (markup_with_source_allowed definitions macros (chars tex) style row h reading).0

pub no_dollar_with_source : (macros : Table) (tex : List ℕ) (style : Style) (markup : List ℕ) → IsAnswerWithSource macros tex style markup → IsDollarFree markup
no_dollar_with_source macros tex style markup (row, reading, is) = rw is (annotated_print_as_elements.dollars (is_display style) (row_element (shown row)) (source_text (chars tex)))

-- what was appended to nothing is all
pub appended : (P : List ℕ → Type 0) (old new : List ℕ) → old ≡ [] → (markup : List ℕ) × P markup × (new ≡ old ++ markup) → P new
appended P old new e (markup, answer, is) = rw (is, e) answer
