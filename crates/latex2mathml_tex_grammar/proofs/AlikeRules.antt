-- The rules of a piece at two places are alike: they differ only in places, also in those of refusals.
use Rattle.std.proofs.Common.{◌≡◌, ◌==◌, ℕ, ℤ, Bool, nat_le, length, true, false, List, inl, inr, [], ◌∷◌, ◌++◌, Option, Some, None, codes, refl, sym, subst, if◌then◌else◌}
use Rattle.std.proofs.lemmas.Bool.{cases_Bool}
use Rattle.std.specs.{Char.is_ascii_alphabetic, Char.is_ascii_digit, Str.byte, Str.bytes_eq}
use Rattle.latex2mathml_elements.specs.Element.{Element}
use Rattle.latex2mathml_elements.specs.Columns.{Columns, Alike, Usual, Centered, LeftAligned, RightAligned}
use Rattle.latex2mathml_tex_grammar.specs.Diagrams.{DiagramArrow, Labeled, LongEquals, HighBars, NoArrow, Direction, Rightwards, Leftwards, Upwards, Downwards, direction_sign, sign_of_arrow}
use Rattle.latex2mathml_tex_grammar.specs.Environments.{Environment, Bracket, NoBracket, Position, Alignment, columns_of, written_out, environment_of}
use Rattle.latex2mathml_tex_grammar.specs.Scanning.{Spot, Argument, Name, ColumnList, RepeatedColumns, Number, ColorName, InLength, AtBracket, AtUnit, BeforeLengthInBraces}
use Rattle.latex2mathml_tex_grammar.specs.Tables.{Lines}
use Rattle.latex2mathml_tex_grammar.specs.{Commands.meaning_of, Commands.symbol_of, Delimiters.delimiter_of, Makes.Core, Makes.Outline, Refusal.Refusal, Rows.Row, Rows.Operand, Symbols.Style, Symbols.Symbol, Words.Words}
use Rattle.latex2mathml_tex_grammar.specs.Meaning.{Meaning, takes_words, Shows, FunctionName, Dots, CenteredDots, VerticalDots, Implication, Spacing, Styled, Words as TakesWordsIn, Fraction, Root, Accent, Brace, Stack, StackedRelation, OperatorName, Negation, Slash, Sized, Left, Middle, Right, Limits, NoLimits, Classed, Changes, BeginTable, EndTable, LineBreak, Substack, Skip, SkipInBraces, Boxed, Smash, ContinuedFraction, GeneralFraction, Choice, Raise, InColor, Highlight, Rectangle, Arrow}
use Rattle.latex2mathml_tex_grammar.specs.Rules.{Context, Ending, WholeText, InBraces, InBrackets, InDollars, InDelimiters, InLabel, begun, Rule, a_character, a_label, arrow_rule, gives, refuses, reads_operand, reads_core, reads_atoms, reads_words, takes_if, if_follows, takes_digits, takes_delimiter, of_one, of_two, decimal, a_number, a_symbol, begins_none, character_rule, struck_atom, command_rule, rule, TableEnd, ByName, OfDiagram, ByBrace, InCell, takes_found, passes_over, reads_rows, ended_table, rows_rule, listed_rule, argument_rule, alignment_rule, bracket_rule, environment_rule, most_columns, ByText, in_brackets, with_value, a_length, a_bar, a_color, a_left_brace, a_right_brace, empty_braces, an_outer_delimiter, has_width, a_line, numbered_style, a_style, an_outlined_fraction}
use Rattle.latex2mathml_tex_grammar.specs.{Colors.color_of, Lengths.width_of}
use Rattle.latex2mathml_elements.specs.Colors.{Color}
use Rattle.latex2mathml_tex_grammar.specs.Spacing.{Standing, BeforeWords, InWords, BetweenDollars, standing_behind, behind_unit, AreAlike, same_piece}
use Rattle.latex2mathml_tex_grammar.specs.Starts.{atom_start, ends, unended, is_close, is_character, is_command, left_behind, is_break}
use Rattle.latex2mathml_tex_grammar.specs.Units.{Piece, Space, Open, Close, Command, Character, Unit, Units}
use Rattle.latex2mathml_tex_grammar.proofs.{OneList.is_byte, Plain.a_character_plain, Plain.close_plain, Plain.delimiter_plain, Plain.sign_of_arrow_plain, Plain.named, Plain.open_plain, Plain.negated_of_plain, Plain.right_plain, Plain.takes_none, Plain.TakesNone, Plain.break_plain, Plain.cr_plain, Plain.newline_plain, Plain.end_plain, Scans.either_holds}
use Rattle.latex2mathml_tex_grammar.proofs.Spaces.{IsCalm, in_formula, in_dollars, IsPlain, ArePlain, AllPlain, character_plain, digit_plain}

-- Endings

-- the same ending, of what begins at two places
pub data AlikeEndings : Ending → Ending → Type 0 where
  both_whole : AlikeEndings WholeText WholeText
  both_braces : {p q : ℕ} → AlikeEndings (InBraces p) (InBraces q)
  both_brackets : {p q : ℕ} → AlikeEndings (InBrackets p) (InBrackets q)
  both_dollars : {p q : ℕ} → AlikeEndings (InDollars p) (InDollars q)
  both_delimiters : {p q : ℕ} → AlikeEndings (InDelimiters p) (InDelimiters q)
  both_cells : (end : TableEnd) {p q : ℕ} → AlikeEndings (InCell end p) (InCell end q)
  both_labels : (direction : Direction) {p q : ℕ} → AlikeEndings (InLabel direction p) (InLabel direction q)

pub same_ends : {e f : Ending} → AlikeEndings e f → (piece : Piece) → ends e piece ≡ ends f piece
same_ends both_whole piece = refl
same_ends both_braces piece = refl
same_ends both_brackets piece = refl
same_ends both_dollars piece = refl
same_ends both_delimiters piece = refl
same_ends (both_cells ByName) piece = refl
same_ends (both_cells ByBrace) piece = refl
same_ends (both_cells ByText) piece = refl
same_ends (both_cells OfDiagram) piece = refl
same_ends (both_labels direction) piece = refl

pub same_start : {e f : Ending} → AlikeEndings e f → (piece : Piece) → atom_start e piece ≡ atom_start f piece
same_start both_whole piece = refl
same_start both_braces piece = refl
same_start both_brackets piece = refl
same_start both_dollars piece = refl
same_start both_delimiters piece = refl
same_start (both_cells end) piece = refl
same_start (both_labels direction) piece = refl

pub same_begun : {e f : Ending} → AlikeEndings e f → begun e ≡ begun f
same_begun both_whole = refl
same_begun both_braces = refl
same_begun both_brackets = refl
same_begun both_dollars = refl
same_begun both_delimiters = refl
same_begun (both_cells end) = refl
same_begun (both_labels direction) = refl

pub unended_too : {e f : Ending} → AlikeEndings e f → unended e ≡ None → unended f ≡ None
unended_too both_whole h = refl
unended_too both_braces h = cc
unended_too both_brackets h = cc
unended_too both_dollars h = cc
unended_too both_delimiters h = cc
unended_too (both_cells ByName) h = cc
unended_too (both_cells ByBrace) h = cc
unended_too (both_cells ByText) h = refl
unended_too (both_cells OfDiagram) h = cc
unended_too (both_labels direction) h = cc

same_some : {r q : Refusal} → Some r ≡ Some q → r ≡ q
same_some e = cc

pub never_ended_too : {e f : Ending} {r : Refusal} → AlikeEndings e f → unended e ≡ Some r → (q : Refusal) × (r.kind ≡ q.kind) × (unended f ≡ Some q)
never_ended_too both_whole h = cc
never_ended_too both_braces h = (_, rw (sym (same_some h)) refl, refl)
never_ended_too both_brackets h = (_, rw (sym (same_some h)) refl, refl)
never_ended_too both_dollars h = (_, rw (sym (same_some h)) refl, refl)
never_ended_too both_delimiters h = (_, rw (sym (same_some h)) refl, refl)
never_ended_too (both_cells ByName) h = (_, rw (sym (same_some h)) refl, refl)
never_ended_too (both_cells ByBrace) h = (_, rw (sym (same_some h)) refl, refl)
never_ended_too (both_cells ByText) h = cc
never_ended_too (both_cells OfDiagram) h = (_, rw (sym (same_some h)) refl, refl)
never_ended_too (both_labels direction) h = (_, rw (sym (same_some h)) refl, refl)

-- where atoms with this ending are, where the whole of them is here
abbrev pub inside : Ending → Standing → Standing
inside WholeText at = at
inside (InBraces place) at = at
inside (InBrackets place) at = at
inside (InDollars place) at = BetweenDollars at
inside (InDelimiters place) at = at
inside (InCell end place) at = at
inside (InLabel direction place) at = at

close_ends : (piece : Piece) → is_close piece ≡ true → IsPlain piece
close_ends Close h = close_plain
close_ends Space h = cc
close_ends Open h = cc
close_ends (Command name) h = cc
close_ends (Character c) h = cc

bracket_ends : (piece : Piece) → is_character (byte "]") piece ≡ true → IsPlain piece
bracket_ends (Character c) h = character_plain c (subst (λ d. (d == byte "$") ≡ false) (is_byte (byte "]") c h) refl)
bracket_ends Space h = cc
bracket_ends Open h = cc
bracket_ends Close h = cc
bracket_ends (Command name) h = cc

right_ends : (piece : Piece) → is_command (codes "right") piece ≡ true → IsPlain piece
right_ends (Command name) h = takes_none name (named (codes "right") name right_plain h)
right_ends Space h = cc
right_ends Open h = cc
right_ends Close h = cc
right_ends (Character c) h = cc

-- what ends a cell

break_command : (name : List ℕ) → is_break (Command name) ≡ true → TakesNone name
break_command name h =
    either_holds _ _
    (either_holds _ _ (named (codes "\\") name break_plain) (named (codes "cr") name cr_plain))
    (named (codes "newline") name newline_plain) h

pub cell_ends : (end : TableEnd) (place : ℕ) (piece : Piece) → ends (InCell end place) piece ≡ true → IsPlain piece
cell_ends ByName place (Command name) h =
    takes_none name (either_holds _ _ (either_holds _ _ (named (codes "end") name end_plain) (λ k. absurd (cc))) (break_command name) h)
cell_ends OfDiagram place (Command name) h =
    takes_none name (either_holds _ _ (either_holds _ _ (either_holds _ _ (named (codes "end") name end_plain) (λ k. absurd (cc))) (λ k. absurd (cc))) (break_command name) h)
cell_ends ByBrace place (Command name) h = takes_none name (break_command name h)
cell_ends ByText place (Command name) h = takes_none name (break_command name h)
cell_ends end place (Character c) h = elim (cases_Bool (c == byte "$")) [
  | inl s ↦ absurd (dollar_in_cell end place (subst (λ d. ends (InCell end place) (Character d) ≡ true) (is_byte c (byte "$") s) h))
  | inr s ↦ character_plain c s
]
  where
    dollar_in_cell : (end : TableEnd) (place : ℕ) → ends (InCell end place) (Character (byte "$")) ≡ true → ⊥
    dollar_in_cell ByName place h = cc
    dollar_in_cell ByBrace place h = cc
    dollar_in_cell ByText place h = cc
    dollar_in_cell OfDiagram place h = cc
cell_ends ByBrace place Close h = close_plain
cell_ends ByName place Close h = cc
cell_ends ByText place Close h = cc
cell_ends OfDiagram place Close h = cc
cell_ends ByName place Space h = cc
cell_ends ByName place Open h = cc
cell_ends OfDiagram place Space h = cc
cell_ends OfDiagram place Open h = cc
cell_ends ByBrace place Space h = cc
cell_ends ByBrace place Open h = cc
cell_ends ByText place Space h = cc
cell_ends ByText place Open h = cc

-- what ends a label is plain

no_dollar_sign : (direction : Direction) → (direction_sign direction == byte "$") ≡ false
no_dollar_sign Rightwards = refl
no_dollar_sign Leftwards = refl
no_dollar_sign Upwards = refl
no_dollar_sign Downwards = refl

arrow_sign_ends : (direction : Direction) (piece : Piece) → is_character (direction_sign direction) piece ≡ true → IsPlain piece
arrow_sign_ends direction (Character c) h = character_plain c (subst (λ d. (d == byte "$") ≡ false) (is_byte (direction_sign direction) c h) (no_dollar_sign direction))
arrow_sign_ends direction Space h = cc
arrow_sign_ends direction Open h = cc
arrow_sign_ends direction Close h = cc
arrow_sign_ends direction (Command name) h = cc

label_ends : (direction : Direction) (place : ℕ) (piece : Piece) → ends (InLabel direction place) piece ≡ true → IsPlain piece
label_ends direction place piece h = elim (cases_Bool (is_character (direction_sign direction) piece)) [
  | inl s ↦ arrow_sign_ends direction piece s
  | inr s ↦ cell_ends OfDiagram place piece (rw s at h)
]

arrow_sign_plain : (direction : Direction) → ArePlain (a_character (direction_sign direction))
arrow_sign_plain Rightwards = a_character_plain (byte ">") refl
arrow_sign_plain Leftwards = a_character_plain (byte "<") refl
arrow_sign_plain Upwards = a_character_plain (byte "A") refl
arrow_sign_plain Downwards = a_character_plain (byte "V") refl

dollar_ends : (at : Standing) (piece : Piece) → is_character (byte "$") piece ≡ true → standing_behind piece (BetweenDollars at) ≡ at
dollar_ends at (Character c) h = subst (λ d. standing_behind (Character d) (BetweenDollars at) ≡ at) (is_byte (byte "$") c h) refl
dollar_ends at Space h = cc
dollar_ends at Open h = cc
dollar_ends at Close h = cc
dollar_ends at (Command name) h = cc

-- after the ending, units are where they were before what it ends
pub ended_behind : {at : Standing} (e : Ending) (piece : Piece) → ends e piece ≡ true → IsCalm (inside e at) → standing_behind piece (inside e at) ≡ at
ended_behind WholeText piece h calm = cc
ended_behind {at} (InBraces place) piece h calm = close_ends piece h at calm
ended_behind {at} (InBrackets place) piece h calm = bracket_ends piece h at calm
ended_behind {at} (InDollars place) piece h calm = dollar_ends at piece h
ended_behind {at} (InDelimiters place) piece h calm = right_ends piece h at calm
ended_behind {at} (InCell end place) piece h calm = cell_ends end place piece h at calm
ended_behind {at} (InLabel direction place) piece h calm = label_ends direction place piece h at calm

-- so the units that are left after atoms are alike
pub left_too : {e f : Ending} {l m : Units} (at : Standing) → AlikeEndings e f → (u v : Unit) → u.piece ≡ v.piece → ends e u.piece ≡ true → IsCalm (inside e at) → AreAlike (standing_behind u.piece (inside e at)) l m → AreAlike at (left_behind e u l) (left_behind f v m)
left_too {e} {l = l} {m = m} at both_whole u v same s calm i = subst (λ k. AreAlike k l m) (ended_behind e u.piece s calm) i
left_too {e} {l = l} {m = m} at both_braces u v same s calm i = subst (λ k. AreAlike k l m) (ended_behind e u.piece s calm) i
left_too {e} {l = l} {m = m} at both_brackets u v same s calm i = subst (λ k. AreAlike k l m) (ended_behind e u.piece s calm) i
left_too {e} {l = l} {m = m} at both_dollars u v same s calm i = subst (λ k. AreAlike k l m) (ended_behind e u.piece s calm) i
left_too {e} {l = l} {m = m} at both_delimiters u v same s calm i = subst (λ k. AreAlike k l m) (ended_behind e u.piece s calm) i
left_too at (both_cells end) u v same s calm i = same_piece same i
left_too at (both_labels direction) u v same s calm i = same_piece same i

-- Rules

-- where words are read, and where the units after them are
pub data WordsStand : Standing → Standing → Type 0 where
  before_words : {at : Standing} → WordsStand (BeforeWords at) at
  within_words : {at : Standing} → WordsStand (InWords at) (InWords at)

-- two rules that are the same but for places: the index is where the units that they read are, and the parameter is where
-- the units after all that they read are
pub data AlikeRules (at : Standing) : Standing → Rule → Rule → Type 0 where
  gives_too : {x : Core} → AlikeRules at at (gives x) (gives x)
  refuses_too : {before : Standing} {r q : Refusal} → r.kind ≡ q.kind → AlikeRules at before (refuses r) (refuses q)
  operand_too : {p q : ℕ} {c : Context} {f g : Operand → Rule} → ((x : Operand) → AlikeRules at at (f x) (g x)) → AlikeRules at at (reads_operand p c f) (reads_operand q c g)
  core_too : {p q : ℕ} {c : Context} {f g : Core → Rule} → ((x : Core) → AlikeRules at at (f x) (g x)) → AlikeRules at at (reads_core p c f) (reads_core q c g)
  atoms_too : {d e : Ending} {c : Context} {f g : Row → Rule} → AlikeEndings d e → at ≡ inside d at → ((x : Row) → AlikeRules at at (f x) (g x)) → AlikeRules at at (reads_atoms d c f) (reads_atoms e c g)
  words_too : {p q : ℕ} {c : Context} {f g : Words → Rule} → ((x : Words) → AlikeRules at at (f x) (g x)) → AlikeRules at (BeforeWords at) (reads_words p c f) (reads_words q c g)
  if_too : {tests : List (Piece → Option (List ℕ))} {f g : List ℕ → Rule} {r s : Rule} → AllPlain tests → ((x : List ℕ) → AlikeRules at at (f x) (g x)) → AlikeRules at at r s → AlikeRules at at (takes_if tests f r) (takes_if tests g s)
  follows_too : {test : Piece → Bool} {r s t k : Rule} → AlikeRules at at r s → AlikeRules at at t k → AlikeRules at at (if_follows test r t) (if_follows test s k)
  digits_taken_too : {f g : List ℕ → Rule} → ((x : List ℕ) → AlikeRules at at (f x) (g x)) → AlikeRules at at (takes_digits f) (takes_digits g)
  delimiter_too : {f g : List ℕ → Rule} → ((x : List ℕ) → AlikeRules at at (f x) (g x)) → AlikeRules at at (takes_delimiter f) (takes_delimiter g)
  scanned_too : {spot : Spot} {p q : ℕ} {f g : List ℕ → Rule} → ((x : List ℕ) → AlikeRules at at (f x) (g x)) → AlikeRules at at (takes_found spot p f) (takes_found spot q g)
  passed_too : {spot : Spot} {r s : Rule} → AlikeRules at at r s → AlikeRules at at (passes_over spot r) (passes_over spot s)
  rows_too : {end : TableEnd} {p q : ℕ} {columns : Columns} {c : Context} {f g : Lines → ℕ → Rule} → ((x : Lines) (j k : ℕ) → AlikeRules at at (f x j) (g x k)) → AlikeRules at at (reads_rows end p columns c f) (reads_rows end q columns c g)

either : {at : Standing} {r s t k : Rule} (b : Bool) → AlikeRules at at r s → AlikeRules at at t k → AlikeRules at at (if b then r else t) (if b then s else k)
either true x y = x
either false x y = y

one_too : {at : Standing} {p q : ℕ} {c : Context} {whole : Operand → Core} → AlikeRules at at (of_one p c whole) (of_one q c whole)
one_too = operand_too (λ x. gives_too)

two_too : {at : Standing} {p q : ℕ} {c d : Context} {whole : Operand → Operand → Core} → AlikeRules at at (of_two p c d whole) (of_two q c d whole)
two_too = operand_too (λ x. one_too)

symbol_too : {at : Standing} (c : Context) (character : ℕ) (s : Option Symbol) → AlikeRules at at (a_symbol c character s) (a_symbol c character s)
symbol_too c character (Some s) = gives_too
symbol_too c character None = gives_too

decimal_too : {at : Standing} (c : Context) (whole : List ℕ) → AlikeRules at at (decimal c whole) (decimal c whole)
decimal_too c whole = digits_taken_too (λ more. gives_too)

number_too : {at : Standing} (c : Context) (digit : ℕ) → AlikeRules at at (a_number c digit) (a_number c digit)
number_too c digit = digits_taken_too (λ more. if_too (a_character_plain (byte ".") refl, (digit_plain, tt)) (λ point. decimal_too c (digit ∷ (more ++ point))) gives_too)

characters_too : {at : Standing} (p q : ℕ) (c : Context) (character : ℕ) → AlikeRules at at (character_rule c character p) (character_rule c character q)
characters_too p q c character =
    either (is_ascii_digit character) (number_too c character)
    (either (is_ascii_alphabetic character) gives_too
    (either (character == byte ".") (if_too (digit_plain, tt) (λ digit. decimal_too c (character ∷ digit)) (symbol_too c character (symbol_of character)))
    (either (character == byte "~") gives_too
    (either (character == byte "&") (refuses_too refl)
    (either (begins_none character) (refuses_too refl)
    (symbol_too c character (symbol_of character)))))))

struck_too : {at : Standing} (p q : ℕ) (x : Core) (found : Option Element) → AlikeRules at at (struck_atom p x found) (struck_atom q x found)
struck_too p q x None = refuses_too refl
struck_too p q x (Some element) = gives_too

-- tables

ended_too : {at : Standing} (p q : ℕ) (c : Context) (e : Environment) (columns : Columns) (lines : Lines) (same : Bool) → AlikeRules at at (ended_table p c e columns lines same) (ended_table q c e columns lines same)
ended_too p q c e columns lines true = gives_too
ended_too p q c e columns lines false = refuses_too refl

rows_of_too : {at : Standing} (p q : ℕ) (c : Context) (name : List ℕ) (e : Environment) (columns : Columns) → AlikeRules at at (rows_rule p c name e columns) (rows_rule q c name e columns)
rows_of_too p q c name e columns = rows_too (λ lines j k. scanned_too (λ other. ended_too j k c e columns lines (bytes_eq other name)))

listed_too : {at : Standing} (p q : ℕ) (c : Context) (name : List ℕ) (e : Environment) (signs : List ℕ) → AlikeRules at at (listed_rule p c name e signs) (listed_rule q c name e signs)
listed_too p q c name e signs = either (nat_le (length (columns_of signs)) most_columns) (rows_of_too p q c name e _) (refuses_too refl)

argument_too : {at : Standing} (p q : ℕ) (c : Context) (name : List ℕ) (e : Environment) (argument : Option Argument) → AlikeRules at at (argument_rule p c name e argument) (argument_rule q c name e argument)
argument_too p q c name e None = rows_of_too p q c name e _
argument_too p q c name e (Some ColumnList) = scanned_too (λ signs. listed_too p q c name e (written_out signs))
argument_too p q c name e (Some Number) = scanned_too (λ number. rows_of_too p q c name e _)
argument_too p q c name e (Some RepeatedColumns) = rows_of_too p q c name e _
argument_too p q c name e (Some Name) = rows_of_too p q c name e _
argument_too p q c name e (Some ColorName) = rows_of_too p q c name e _

in_brackets_plain : (c : ℕ) → (byte "$" == c) ≡ false → AllPlain (in_brackets c)
in_brackets_plain c h = (a_character_plain (byte "[") refl, (a_character_plain c h, (a_character_plain (byte "]") refl, tt)))

alignment_too : {at : Standing} (p q : ℕ) (c : Context) (name : List ℕ) (e : Environment) → AlikeRules at at (alignment_rule p c name e) (alignment_rule q c name e)
alignment_too p q c name e =
    if_too {tests = in_brackets (byte "l")} (in_brackets_plain (byte "l") refl) (λ letter. rows_of_too p q c name e (Alike Usual LeftAligned))
    (if_too {tests = in_brackets (byte "c")} (in_brackets_plain (byte "c") refl) (λ letter. rows_of_too p q c name e (Alike Usual Centered))
    (if_too {tests = in_brackets (byte "r")} (in_brackets_plain (byte "r") refl) (λ letter. rows_of_too p q c name e (Alike Usual RightAligned)) (rows_of_too p q c name e e.columns)))

bracket_too : {at : Standing} (p q : ℕ) (c : Context) (name : List ℕ) (e : Environment) (bracket : Bracket) → AlikeRules at at (bracket_rule p c name e bracket) (bracket_rule q c name e bracket)
bracket_too p q c name e NoBracket = argument_too p q c name e e.argument
bracket_too p q c name e Position = passed_too (argument_too p q c name e e.argument)
bracket_too p q c name e Alignment = alignment_too p q c name e

environment_too : {at : Standing} (p q : ℕ) (c : Context) (name : List ℕ) (e : Option Environment) → AlikeRules at at (environment_rule p c name e) (environment_rule q c name e)
environment_too p q c name None = refuses_too refl
environment_too p q c name (Some e) = bracket_too p q c name e e.bracket

-- diagrams

label_too : {at : Standing} (p q : ℕ) (c : Context) (direction : Direction) {f g : Row → Rule} → ((x : Row) → AlikeRules at at (f x) (g x)) → AlikeRules at at (a_label p c direction f) (a_label q c direction g)
label_too p q c direction h = atoms_too (both_labels direction) refl (λ label. if_too (arrow_sign_plain direction, tt) (λ sign. h label) (refuses_too refl))

pub arrow_too : {at : Standing} (p q : ℕ) (c : Context) (arrow : DiagramArrow) → AlikeRules at at (arrow_rule p c arrow) (arrow_rule q c arrow)
arrow_too p q c (Labeled direction) = label_too p q c direction (λ first. label_too p q c direction (λ second. gives_too))
arrow_too p q c LongEquals = gives_too
arrow_too p q c HighBars = gives_too
arrow_too p q c NoArrow = gives_too

-- lengths and colors

with_value_too : {A : Type 0} {at : Standing} (r q : Refusal) {f g : A → Rule} → r.kind ≡ q.kind → ((x : A) → AlikeRules at at (f x) (g x)) → (x : Option A) → AlikeRules at at (with_value r f x) (with_value q g x)
with_value_too r q e h None = refuses_too e
with_value_too r q e h (Some x) = h x

length_too : {at : Standing} (p q : ℕ) (spot : Spot) {f g : ℤ → Rule} → ((length : ℤ) → AlikeRules at at (f length) (g length)) → AlikeRules at at (a_length p spot f) (a_length q spot g)
length_too p q spot h = scanned_too (λ text. with_value_too _ _ refl h (width_of text))

bar_too : {at : Standing} (p q : ℕ) (raise : Option ℤ) → AlikeRules at at (a_bar p raise) (a_bar q raise)
bar_too p q raise = length_too p q BeforeLengthInBraces (λ width. length_too p q BeforeLengthInBraces (λ height. gives_too))

color_too : {at : Standing} (p q : ℕ) {f g : Color → Rule} → ((color : Color) → AlikeRules at at (f color) (g color)) → AlikeRules at at (a_color p f) (a_color q g)
color_too p q h = scanned_too (λ name. with_value_too _ _ refl h (color_of name))

-- fractions whose outline is given

left_brace_plain : ArePlain a_left_brace
left_brace_plain Open found e = open_plain
left_brace_plain Space found e = cc
left_brace_plain Close found e = cc
left_brace_plain (Command name) found e = cc
left_brace_plain (Character c) found e = cc

right_brace_plain : ArePlain a_right_brace
right_brace_plain Close found e = close_plain
right_brace_plain Space found e = cc
right_brace_plain Open found e = cc
right_brace_plain (Command name) found e = cc
right_brace_plain (Character c) found e = cc

empty_braces_plain : AllPlain empty_braces
empty_braces_plain = (left_brace_plain, (right_brace_plain, tt))

in_braces_plain : AllPlain (a_left_brace ∷ delimiter_of ∷ a_right_brace ∷ [])
in_braces_plain = (left_brace_plain, (delimiter_plain, (right_brace_plain, tt)))

outer_delimiter_too : {at : Standing} (p q : ℕ) {f g : List ℕ → Rule} → ((text : List ℕ) → AlikeRules at at (f text) (g text)) → AlikeRules at at (an_outer_delimiter p f) (an_outer_delimiter q g)
outer_delimiter_too p q h =
    if_too (delimiter_plain, tt) h (if_too in_braces_plain h (if_too empty_braces_plain h (refuses_too refl)))

line_too : {at : Standing} (p q : ℕ) {f g : Bool → Rule} → ((has_line : Bool) → AlikeRules at at (f has_line) (g has_line)) → AlikeRules at at (a_line p f) (a_line q g)
line_too p q h = if_too empty_braces_plain (λ usual. h true) (length_too p q BeforeLengthInBraces (λ width. h (has_width width)))

style_too : {at : Standing} (p q : ℕ) {f g : Option Style → Rule} → ((own : Option Style) → AlikeRules at at (f own) (g own)) → AlikeRules at at (a_style p f) (a_style q g)
style_too p q h = scanned_too (λ number. with_value_too _ _ refl h (numbered_style number))

outlined_too : {at : Standing} (p q : ℕ) (c : Context) (o : Outline) → AlikeRules at at (an_outlined_fraction p c o) (an_outlined_fraction q c o)
outlined_too p q c o = two_too

-- a command that takes no words does not change where units are
as_is : {at : Standing} {r s : Rule} → IsCalm at → AlikeRules at at r s → AlikeRules at (behind_unit at) r s
as_is in_formula h = h
as_is in_dollars h = h

words_follow : {at : Standing} {r s : Rule} → IsCalm at → AlikeRules at (BeforeWords at) r s → AlikeRules at (BeforeWords (behind_unit at)) r s
words_follow in_formula h = h
words_follow in_dollars h = h

abbrev behind_command : Bool → Standing → Standing
behind_command takes at = if takes then BeforeWords (behind_unit at) else behind_unit at

command_too : {at : Standing} (p q : ℕ) (c : Context) (name : List ℕ) (meaning : Option Meaning) → IsCalm at → AlikeRules at (behind_command (takes_words meaning) at) (command_rule p c name meaning) (command_rule q c name meaning)
command_too p q c name None calm = refuses_too refl
command_too p q c name (Some (Shows s)) calm = as_is calm gives_too
command_too p q c name (Some (FunctionName limits own)) calm = as_is calm gives_too
command_too p q c name (Some Dots) calm = as_is calm (follows_too gives_too (follows_too gives_too gives_too))
command_too p q c name (Some CenteredDots) calm = as_is calm (follows_too gives_too gives_too)
command_too p q c name (Some VerticalDots) calm = as_is calm gives_too
command_too p q c name (Some (Implication sign_character)) calm = as_is calm gives_too
command_too p q c name (Some (Spacing width)) calm = as_is calm gives_too
command_too p q c name (Some Skip) calm = as_is calm (length_too p q (InLength AtUnit) (λ width. gives_too))
command_too p q c name (Some SkipInBraces) calm = as_is calm (passed_too (length_too p q BeforeLengthInBraces (λ width. gives_too)))
command_too p q c name (Some (Boxed box)) calm = as_is calm one_too
command_too p q c name (Some Smash) calm =
    as_is calm (if_too (in_brackets_plain (byte "t") refl) (λ top. one_too) (if_too (in_brackets_plain (byte "b") refl) (λ bottom. one_too) one_too))
command_too p q c name (Some Raise) calm = as_is calm (length_too p q BeforeLengthInBraces (λ height. one_too))
command_too p q c name (Some InColor) calm = as_is calm (color_too p q (λ color. one_too))
command_too p q c name (Some Highlight) calm = as_is calm (color_too p q (λ color. one_too))
command_too p q c name (Some Rectangle) calm =
    as_is calm (if_too (a_character_plain (byte "[") refl, tt) (λ bracket. length_too p q (InLength AtBracket) (λ height. bar_too p q (Some height))) (bar_too p q None))
command_too p q c name (Some (Arrow sign_character)) calm =
    as_is calm (if_too (a_character_plain (byte "[") refl, tt) (λ bracket. atoms_too both_brackets refl (λ below. one_too)) one_too)
command_too p q c name (Some (Styled alphabet)) calm = as_is calm one_too
command_too p q c name (Some (TakesWordsIn alphabet)) calm = words_follow calm (words_too (λ ws. gives_too))
command_too p q c name (Some (Fraction bar own)) calm = as_is calm two_too
command_too p q c name (Some ContinuedFraction) calm =
    as_is calm (if_too (in_brackets_plain (byte "l") refl) (λ left. two_too) (if_too {tests = in_brackets (byte "r")} (in_brackets_plain (byte "r") refl) (λ right. two_too) two_too))
command_too p q c name (Some GeneralFraction) calm =
    as_is calm (outer_delimiter_too p q (λ opening. outer_delimiter_too p q (λ closing. line_too p q (λ has_line. style_too p q (λ own.
    outlined_too p q c (record { opening = opening; closing = closing; has_line = has_line; own = own }))))))
command_too p q c name (Some Choice) calm = as_is calm (operand_too (λ display. operand_too (λ text. two_too)))
command_too p q c name (Some Root) calm = as_is calm (if_too (a_character_plain (byte "[") refl, tt) (λ bracket. atoms_too both_brackets refl (λ degree. one_too)) one_too)
command_too p q c name (Some (Accent side mark width)) calm = as_is calm one_too
command_too p q c name (Some (Brace side mark)) calm = as_is calm one_too
command_too p q c name (Some (Stack side)) calm = as_is calm two_too
command_too p q c name (Some StackedRelation) calm = as_is calm two_too
command_too p q c name (Some OperatorName) calm = as_is calm (if_too (a_character_plain (byte "*") refl, tt) (λ star. one_too) one_too)
command_too p q c name (Some Negation) calm = as_is calm (if_too (negated_of_plain, tt) (λ sign_text. gives_too) (core_too (λ x. struck_too p q x _)))
command_too p q c name (Some Slash) calm = as_is calm one_too
command_too p q c name (Some (Sized size class)) calm = as_is calm (if_too in_braces_plain (λ sign_text. gives_too) (delimiter_too (λ sign_text. gives_too)))
command_too p q c name (Some Left) calm = as_is calm (delimiter_too (λ opening. atoms_too both_delimiters refl (λ row. delimiter_too (λ closing. gives_too))))
command_too p q c name (Some Middle) calm = refuses_too refl
command_too p q c name (Some Right) calm = refuses_too refl
command_too p q c name (Some Limits) calm = refuses_too refl
command_too p q c name (Some NoLimits) calm = refuses_too refl
command_too p q c name (Some (Classed class)) calm = as_is calm one_too
command_too p q c name (Some (Changes change)) calm = refuses_too refl
command_too p q c name (Some BeginTable) calm = as_is calm (scanned_too (λ own. environment_too p q c own (environment_of own)))
command_too p q c name (Some EndTable) calm = refuses_too refl
command_too p q c name (Some LineBreak) calm = refuses_too refl
command_too p q c name (Some Substack) calm = as_is calm (scanned_too (λ brace. rows_too (λ lines j k. gives_too)))

plain_rule : {at before : Standing} {r s : Rule} → before ≡ at → AlikeRules at at r s → AlikeRules at before r s
plain_rule {at} {before} {r} {s} e h = subst (λ k. AlikeRules at k r s) (sym e) h

-- the rules of a piece
pub rules_too : {at : Standing} (p q : ℕ) (c : Context) (piece : Piece) → IsCalm at → AlikeRules at (standing_behind piece at) (rule p c piece) (rule q c piece)
rules_too {at} p q c Open calm = plain_rule (open_plain at calm) (atoms_too both_braces refl (λ row. gives_too))
rules_too p q c Close calm = refuses_too refl
rules_too p q c Space calm = refuses_too refl
rules_too {at} p q c (Character character) calm = elim (cases_Bool (character == byte "$")) [
  | inl s ↦ subst (λ d. AlikeRules at (standing_behind (Character d) at) (character_rule c d p) (character_rule c d q)) (sym (is_byte character (byte "$") s)) (refuses_too refl)
  | inr s ↦ plain_rule (character_plain character s at calm) (characters_too p q c character)
]
rules_too p q c (Command name) calm = command_too p q c name (meaning_of name) calm

pub arrow_tests : AllPlain (sign_of_arrow ∷ [])
arrow_tests = (sign_of_arrow_plain, tt)

pub delimiter_tests : AllPlain (delimiter_of ∷ [])
delimiter_tests = (delimiter_plain, tt)
