-- Tables whose cells hold no character that XML forbids hold none, and the rules of tables give none.
use Rattle.std.proofs.Common.{◌≡◌, ℕ, zero, suc, ℤ, pos, Bool, true, false, not, ◌&&◌, if◌then◌else◌, nat_le, List, [], ◌∷◌, length, Option, Some, None, refl, subst}
use Rattle.std.proofs.lemmas.Bool.{and_parts}
use Rattle.std.specs.{Bool.⊤, Char.encode_utf8, List.list_all, Str.bytes_eq, Str.chars}
use Rattle.latex2mathml_elements.specs.Characters.{IsAllowed, HasAllowedTexts, EachTextOf, EachTextOfCells, EachTextOfRows}
use Rattle.latex2mathml_elements.specs.{Struts.strut, Struts.with_strut, Columns.density_in, Columns.behind_row, Columns.in_last_row, Columns.Columns, Columns.Centered, Columns.LeftAligned, Columns.RightAligned, Columns.Usual, Columns.Alike, Tables.are_line, Tables.cells_behind, Tables.cells_in, Lines.Line, Lines.NoLine, Lines.OneLine, Lines.TwoLines, Lines.Dashes, Lines.is_drawn, Tables.is_line as is_row_line, Tables.line_of, Tables.rows_behind}
use Rattle.latex2mathml_elements.specs.Element.{Mrow, Msqrt, Mstyle, Mpadded, Mphantom, Element, Elements, Rows, token, space, rectangle, container, pair, triple, table, more, none}
use Rattle.latex2mathml_tex_grammar.specs.Environments.{columns_of, fitted, listed, written_out, Environment, Bracket, NoBracket, Position, Alignment, environments, entry_environment, environment_of}
use Rattle.latex2mathml_tex_grammar.specs.{Rows.row_element, Symbols.Style}
use Rattle.latex2mathml_tex_grammar.specs.Rules.{Context, ended_table, rows_rule, most_columns, listed_rule, argument_rule, bracket_rule, environment_rule}
use Rattle.latex2mathml_tex_grammar.specs.Scanning.{Argument, Name, ColumnList, RepeatedColumns, Number, ColorName, Deed, Passes, Adds, Ends, Leaves, Misses, Refuses, Spot, deed, done, may_end, found_at_end, with_character, Found, Given, Missing, scan, behind_found, past, past_break, BeforeStar, BeforeLength, BeforeRow}
use Rattle.latex2mathml_tex_grammar.specs.RowLines.{lined}
use Rattle.latex2mathml_tex_grammar.specs.Tables.{Lines, a_row, with_last, rows_onto, between_any, a_table}
use Rattle.latex2mathml_tex_grammar.specs.Heights.{Height}
use Rattle.latex2mathml_tex_grammar.specs.Refusal.{Refusal}
use Rattle.latex2mathml_tex_grammar.specs.Units.{Unit, Units, Next, End, Stop}
use Rattle.latex2mathml_tex_grammar.proofs.Allowed.{AreAllowedElements, AreAllowedUnits, AreAllowedLines, IsAllowedCore, IsAllowedRule}
use Rattle.latex2mathml_tex_grammar.proofs.AllowedMakes.{row_children_allowed, row_element_allowed}
use Rattle.latex2mathml_tex_grammar.proofs.AllowedTables.{Passes as PassesTest, allowed_text, is_allowed_text}
use Rattle.latex2mathml_tex_grammar.proofs.Choices.{of_either}

-- Rows

pub a_row_allowed : (columns : Columns) (gap : ℤ) (x : Element) (cells : List Element) → HasAllowedTexts x → AreAllowedElements cells → HasAllowedTexts (a_row columns gap x cells)
a_row_allowed columns gap x cells h k = row_children_allowed (with_strut (strut (density_in columns) gap) x ∷ cells) ((h, (tt, tt)), k)

pub with_last_allowed : (columns : Columns) (rows cells cell : List Element) → AreAllowedElements rows → AreAllowedElements cells → AreAllowedElements cell → AreAllowedLines (with_last columns rows cells cell)
with_last_allowed columns [] cells cell h k i = (a_row_allowed columns (pos 0) (row_element cell) cells (row_element_allowed cell i) k, h)
with_last_allowed columns (row ∷ rows) (x ∷ cells) cell h k i = (a_row_allowed columns (pos 0) (row_element cell) (x ∷ cells) (row_element_allowed cell i) k, h)
with_last_allowed columns (row ∷ rows) [] (x ∷ cell) h k i = (a_row_allowed columns (pos 0) (row_element (x ∷ cell)) [] (row_element_allowed (x ∷ cell) i) tt, h)
with_last_allowed columns (row ∷ rows) [] [] h k i = (h.0, h.1)

cells_behind_allowed : (k : ℕ) (columns : Columns) (x : Element) (xs : Elements) → HasAllowedTexts x → EachTextOf IsAllowed xs → EachTextOfCells IsAllowed (cells_behind k columns x xs)
cells_behind_allowed k columns x none h i = (h, tt)
cells_behind_allowed k columns x (more y ys) h i = ((h, tt), cells_behind_allowed (suc k) columns y ys i.0 i.1)

cells_in_allowed : (columns : Columns) (x : Element) → HasAllowedTexts x → EachTextOfCells IsAllowed (cells_in columns x)
cells_in_allowed columns (container Mrow a (more x xs)) h = cells_behind_allowed zero columns x xs h.0 h.1
cells_in_allowed columns (container Mrow a none) h = (h, tt)
cells_in_allowed columns (container Msqrt a xs) h = (h, tt)
cells_in_allowed columns (container Mstyle a xs) h = (h, tt)
cells_in_allowed columns (container Mpadded a xs) h = (h, tt)
cells_in_allowed columns (container Mphantom a xs) h = (h, tt)
cells_in_allowed columns (token t a text) h = (h, tt)
cells_in_allowed columns (space width) h = (h, tt)
cells_in_allowed columns (rectangle e) h = (h, tt)
cells_in_allowed columns (pair p a x y) h = (h, tt)
cells_in_allowed columns (triple t a x y z) h = (h, tt)
cells_in_allowed columns (table a rows) h = (h, tt)

either_allowed : (b : Bool) (xs ys : Rows) → EachTextOfRows IsAllowed xs → EachTextOfRows IsAllowed ys → EachTextOfRows IsAllowed (if b then xs else ys)
either_allowed true xs ys h k = h
either_allowed false xs ys h k = k

rows_in_allowed : (columns : Columns) (line : Line) (x : Element) (xs : List Element) → HasAllowedTexts x → AreAllowedElements xs → EachTextOfRows IsAllowed (rows_behind columns line x xs)
rows_in_allowed columns line x [] h k = either_allowed (not (is_drawn line) && is_row_line x) _ _ tt (cells_in_allowed (in_last_row columns) x h)
rows_in_allowed columns line x (y ∷ ys) h k =
    either_allowed (not (is_drawn line) && is_row_line x) _ _ (rows_in_allowed columns (line_of x) y ys k.0 k.1)
    (either_allowed (are_line (y ∷ ys)) _ _ (cells_in_allowed (in_last_row columns) x h) (cells_in_allowed columns x h, rows_in_allowed (behind_row columns) NoLine y ys k.0 k.1))

rows_onto_allowed : (columns : Columns) (ys : List Element) (x : Element) (xs : List Element) → AreAllowedElements ys → HasAllowedTexts x → AreAllowedElements xs → EachTextOfRows IsAllowed (rows_onto columns ys x xs)
rows_onto_allowed columns [] x xs h k i = rows_in_allowed columns NoLine x xs k i
rows_onto_allowed columns (y ∷ ys) x xs h k i = rows_onto_allowed columns ys y (x ∷ xs) h.1 h.0 (k, i)

-- Tables

abbrev AreAllowedDelimiters : Option (List ℕ × List ℕ) → Type 0
AreAllowedDelimiters None = ⊤
AreAllowedDelimiters (Some delimiters) = IsAllowed delimiters.0 × IsAllowed delimiters.1

between_any_allowed : (delimiters : Option (List ℕ × List ℕ)) (height : Height) (x : Element) → AreAllowedDelimiters delimiters → HasAllowedTexts x → HasAllowedTexts (between_any delimiters height x)
between_any_allowed None height x h k = k
between_any_allowed (Some delimiters) height x h k = (h.0, (k, (h.1, tt)))

pub a_table_allowed : (delimiters : Option (List ℕ × List ℕ)) (columns : Columns) (style around : Style) (lines : Lines) → AreAllowedDelimiters delimiters → AreAllowedLines lines → IsAllowedCore (a_table delimiters columns style around lines)
a_table_allowed delimiters columns style around lines h k = between_any_allowed delimiters _ _ h (rows_onto_allowed columns lines.others lines.last [] k.1 k.0 tt)

-- Environments

abbrev are_allowed_delimiters : Option (List ℕ × List ℕ) → Bool
are_allowed_delimiters None = true
are_allowed_delimiters (Some delimiters) = is_allowed_text delimiters.0 && is_allowed_text delimiters.1

all_environments : list_all (λ e. are_allowed_delimiters e.1.delimiters) environments ≡ true
unfolding environments chars encode_utf8
all_environments = refl

found_environment : (entries : List (List ℕ × Environment)) (name : List ℕ) → list_all (λ e. are_allowed_delimiters e.1.delimiters) entries ≡ true → PassesTest (λ e. are_allowed_delimiters e.delimiters) (entry_environment entries name)
found_environment [] name h = refl
found_environment (entry ∷ entries) name h =
    let parts = and_parts (are_allowed_delimiters entry.1.delimiters) (list_all (λ e. are_allowed_delimiters e.1.delimiters) entries) h in
    of_either (PassesTest (λ e. are_allowed_delimiters e.delimiters)) (bytes_eq entry.0 name) parts.0 (found_environment entries name parts.1)

pub environment_passes : (name : List ℕ) → PassesTest (λ e. are_allowed_delimiters e.delimiters) (environment_of name)
unfolding environment_of
environment_passes name = found_environment environments name all_environments

delimiters_allowed : (delimiters : Option (List ℕ × List ℕ)) → are_allowed_delimiters delimiters ≡ true → AreAllowedDelimiters delimiters
delimiters_allowed None h = tt
delimiters_allowed (Some delimiters) h =
    let parts = and_parts (is_allowed_text delimiters.0) (is_allowed_text delimiters.1) h in
    (allowed_text delimiters.0 parts.0, allowed_text delimiters.1 parts.1)

-- Rules

ended_allowed : (place : ℕ) (c : Context) (e : Environment) (columns : Columns) (lines : Lines) (same : Bool) → are_allowed_delimiters e.delimiters ≡ true → AreAllowedLines lines → IsAllowedRule (ended_table place c e columns lines same)
ended_allowed place c e columns lines true h k = a_table_allowed e.delimiters columns e.style c.style lines (delimiters_allowed e.delimiters h) k
ended_allowed place c e columns lines false h k = tt

rows_rule_allowed : (place : ℕ) (c : Context) (name : List ℕ) (e : Environment) (columns : Columns) → are_allowed_delimiters e.delimiters ≡ true → IsAllowedRule (rows_rule place c name e columns)
rows_rule_allowed place c name e columns h = λ lines at k other. ended_allowed at c e columns lines (bytes_eq other name) h k

listed_allowed : (place : ℕ) (c : Context) (name : List ℕ) (e : Environment) (signs : List ℕ) → are_allowed_delimiters e.delimiters ≡ true → IsAllowedRule (listed_rule place c name e signs)
listed_allowed place c name e signs h = of_either IsAllowedRule (nat_le (length (columns_of signs)) most_columns) (rows_rule_allowed place c name e (fitted (density_in e.columns) (listed signs)) h) tt

argument_allowed : (place : ℕ) (c : Context) (name : List ℕ) (e : Environment) (argument : Option Argument) → are_allowed_delimiters e.delimiters ≡ true → IsAllowedRule (argument_rule place c name e argument)
argument_allowed place c name e None h = rows_rule_allowed place c name e e.columns h
argument_allowed place c name e (Some ColumnList) h = λ signs. listed_allowed place c name e (written_out signs) h
argument_allowed place c name e (Some Number) h = λ number. rows_rule_allowed place c name e e.columns h
argument_allowed place c name e (Some RepeatedColumns) h = rows_rule_allowed place c name e e.columns h
argument_allowed place c name e (Some Name) h = rows_rule_allowed place c name e e.columns h
argument_allowed place c name e (Some ColorName) h = rows_rule_allowed place c name e e.columns h

bracket_allowed : (place : ℕ) (c : Context) (name : List ℕ) (e : Environment) (bracket : Bracket) → are_allowed_delimiters e.delimiters ≡ true → IsAllowedRule (bracket_rule place c name e bracket)
bracket_allowed place c name e NoBracket h = argument_allowed place c name e e.argument h
bracket_allowed place c name e Position h = argument_allowed place c name e e.argument h
bracket_allowed place c name e Alignment h =
    let rows : (columns : Columns) → IsAllowedRule (rows_rule place c name e columns) = λ columns. rows_rule_allowed place c name e columns h in
    (λ letter given. rows (Alike Usual LeftAligned), (λ letter given. rows (Alike Usual Centered), (λ letter given. rows (Alike Usual RightAligned), rows e.columns)))

pub environment_allowed : (place : ℕ) (c : Context) (name : List ℕ) (e : Option Environment) → PassesTest (λ e. are_allowed_delimiters e.delimiters) e → IsAllowedRule (environment_rule place c name e)
environment_allowed place c name None h = tt
environment_allowed place c name (Some e) h = bracket_allowed place c name e e.bracket h

-- The units that are left after something was taken

abbrev FoundIsAllowed : Found → Type 0
FoundIsAllowed (Given text l) = AreAllowedUnits l
FoundIsAllowed (Missing r) = ⊤

longer_allowed : (c : ℕ) (found : Found) → FoundIsAllowed found → FoundIsAllowed (with_character c found)
longer_allowed c (Given text l) h = h
longer_allowed c (Missing r) h = tt

done_allowed : (place : ℕ) (spot : Spot) (d : Deed) (u : Unit) (l : Units) (behind : Spot → Found) → AreAllowedUnits (Next u l) → ((next : Spot) → FoundIsAllowed (behind next)) → FoundIsAllowed (done place spot d u l behind)
done_allowed place spot (Passes next) u l behind h k = k next
done_allowed place spot (Adds c next) u l behind h k = longer_allowed c (behind next) (k next)
done_allowed place spot Ends u l behind h k = h.1
done_allowed place spot Leaves u l behind h k = h
done_allowed place spot Misses u l behind h k = tt
done_allowed place spot (Refuses kind) u l behind h k = tt

end_allowed : (b : Bool) (l : Units) (r : Refusal) → AreAllowedUnits l → FoundIsAllowed (found_at_end b l r)
end_allowed true l r h = h
end_allowed false l r h = tt

pub scan_allowed : (place : ℕ) (l : Units) (spot : Spot) → AreAllowedUnits l → FoundIsAllowed (scan place l spot)
scan_allowed place (Next u us) spot h = done_allowed place spot (deed spot u.piece) u us (scan place us) h (λ next. scan_allowed place us next h.1)
scan_allowed place (End at) spot h = end_allowed (may_end spot) (End at) _ h
scan_allowed place (Stop r) spot h = end_allowed (may_end spot) (Stop r) _ h

pub given_allowed : (place : ℕ) (l m : Units) (spot : Spot) (text : List ℕ) → scan place l spot ≡ Given text m → AreAllowedUnits l → AreAllowedUnits m
given_allowed place l m spot text e h = subst FoundIsAllowed e (scan_allowed place l spot h)

behind_found_allowed : (l : Units) (found : Found) → AreAllowedUnits l → FoundIsAllowed found → AreAllowedUnits (behind_found l found)
behind_found_allowed l (Given text m) h k = k
behind_found_allowed l (Missing r) h k = h

pub past_spot_allowed : (spot : Spot) (l : Units) → AreAllowedUnits l → AreAllowedUnits (past spot l)
past_spot_allowed spot l h = behind_found_allowed l (scan 0 l spot) h (scan_allowed 0 l spot h)

pub lined_allowed : (line : Line) (rows : List Element) → AreAllowedElements rows → AreAllowedElements (lined line rows)
lined_allowed NoLine rows h = h
lined_allowed OneLine rows h = (tt, h)
lined_allowed TwoLines rows h = (tt, h)
lined_allowed Dashes rows h = (tt, h)

pub past_break_allowed : (l : Units) → AreAllowedUnits l → AreAllowedUnits (past_break l)
past_break_allowed l h =
    past_spot_allowed BeforeRow (past BeforeLength (past BeforeStar l)) (past_spot_allowed BeforeLength (past BeforeStar l) (past_spot_allowed BeforeStar l h))
