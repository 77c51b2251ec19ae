-- What the parser's steps preserve: what holds of each state, and what decreases.
use Rattle.std.specs.Prelude.{IsFalse, ◌⊎◌, ◌≡◌, ℕ, ◌+◌, ◌*◌, ◌<◌, ◌≤◌, Bool, true, false, IsTrue, IfSome, OnOk, List, [], ◌∷◌, ◌&&◌, ⊤, drop, length, option_map, reverse, Result, sum_by, take, Option, Some, None}
use Rattle.std.specs.declared.alloc.AllocError.{AllocError}
use Rattle.latex2mathml_elements.specs.Element.{Element}
use Rattle.latex2mathml_builder.specs.Built.{elements_in}
use Rattle.latex2mathml_attributes.specs.declared.attributes.Side.{Side}
use Rattle.latex2mathml_tex_grammar.specs.Atoms.{Atom}
use Rattle.latex2mathml_tex_grammar.specs.Makes.{Scripts, core, divider}
use Rattle.latex2mathml_tex_grammar.specs.Meaning.{Change}
use Rattle.latex2mathml_tex_grammar.specs.Next.{past_space}
use Rattle.latex2mathml_tex_grammar.specs.Reading.{Read, Refused, Outcome, ReadsRows}
use Rattle.latex2mathml_tex_grammar.specs.{Ligatures.joined, Refusal.Refusal, Rests.finished, Rows.Row, Rows.lone, Starts.unended}
use Rattle.latex2mathml_attributes.specs.Columns.{columns_of}
use Rattle.latex2mathml_tex_units.specs.Environments.{delimiter_texts}
use Rattle.latex2mathml_tex.specs.Tables.{RowsLead, after_rows, behind_rows, cell_context, cells_of, columns_in, ended_by, rows_of, style_in, table_end}
use Rattle.latex2mathml_tex_grammar.specs.Tables.{Lines, a_table, with_last}
use Rattle.latex2mathml_tex_grammar.specs.RowLines.{line_next, lined}
use Rattle.latex2mathml_tex_grammar.specs.Scanning.{Spot, BeforeRow, Given, Missing, past, scan}
use Rattle.latex2mathml_attributes.specs.declared.columns.Columns.{Columns}
use Rattle.latex2mathml_tex_commands.specs.declared.meaning.Style.{Style}
use Rattle.latex2mathml_tex_grammar.specs.Rules.{Context as DefinedContext, Rule, a_number, gives, in_size, rule, styled, takes_delimiter}
use Rattle.latex2mathml_tex_grammar.specs.{Symbols.Alphabet, Symbols.Class, Symbols.TextSize, Words.IsWord, Words.Word, Words.alphabet_after, Words.alphabet_behind, Words.shown_character, Words.no_words, Words.with_accent_ended, Words.with_word, Words.word_rule}
use Rattle.latex2mathml_tex_grammar.specs.Starts as starts
use Rattle.latex2mathml_tex_grammar.specs.Units as grammar
use Rattle.latex2mathml_tex_grammar.specs.{Formulas.shown}
use Rattle.latex2mathml_tex_grammar.specs.Units.{Units, Next, End}
use Rattle.latex2mathml_tex_units.specs.{Errors.refusal_of, Taking.piece_of, Taking.unit_of}
use Rattle.latex2mathml_tex.specs.Innermost.{IsInnermost}
use Rattle.latex2mathml_tex.specs.Frames.{RowMade, ScriptMade, Start, Whole, after_first, base_of, context_at, element_count, ending_count, ending_of, first_count, inside, primes_put, within}
use Rattle.latex2mathml_tex_units.specs.Left.{unit_count, units_at}
use Rattle.latex2mathml_tex.specs.Levels.{AtomMade, CoreMade, Leads, Level, OperandMade, PartMade, RestLeads, RuleLeads, ScriptsLead, Then, WordLeads, as_atom, as_atom_in_words, as_resized, words}
use Rattle.latex2mathml_tex_commands.specs.Meanings.{alphabet_of, limit_place_of, style_of}
use Rattle.latex2mathml_tex_atoms.specs.Models.{context_of, core_with, height_of, kind_of, operand_with, row_count, row_with, script_count, scripts_with, top, words_with}
use Rattle.latex2mathml_tex_commands.specs.declared.{meaning.Alphabet.Alphabet as CodeAlphabet, meaning.Style.Style as CodeStyle}
use Rattle.latex2mathml_tex_units.specs.declared.unit.Unit.{Unit}
use Rattle.latex2mathml_tex_atoms.specs.declared.heights.Height.{Height as CodeHeight}
use Rattle.latex2mathml_tex_atoms.specs.declared.{atoms.Context.Context, atoms.Core.Core as CodeCore, atoms.Kind.Kind as AtomKind, atoms.Operand.Operand as CodeOperand, atoms.Row.Row as CodeRow, atoms.Scripts.Scripts as CodeScripts, atoms.Words.Words as CodeWords}
use Rattle.latex2mathml_tex.specs.declared.{parse.Form.Form, parse.Parser.Parser, parse.State.State, parse.scripts.Mark.Mark}
use Rattle.latex2mathml_tex.specs.declared.parse.scripts.Mark.TheVariants as mark
use Rattle.latex2mathml_attributes.specs.declared.attributes.Side.TheVariants as side
use Rattle.latex2mathml_tex.specs.declared.parse.State.TheVariants as state
use Rattle.latex2mathml_tex.specs.declared.parse.endings.{Ending.Ending, Table.Table, TableKind.TableKind}
use Rattle.latex2mathml_tex.specs.declared.parse.frames.{First.First, Frame.Frame}
use Rattle.latex2mathml_tex.specs.declared.parse.endings.Ending.TheVariants as ending
use Rattle.latex2mathml_tex.specs.declared.parse.frames.Frame.TheVariants as frame

-- the open elements, the uppermost first
abbrev pub elements_of : Parser → List Element
elements_of p = elements_in p.builder

abbrev pub left_of : Parser → Units
left_of p = units_at p.input

-- the level that the parser is at, without the n uppermost elements
abbrev pub level : ℕ → Start → Parser → Level
level n s p = inside s p.frames.stack.items (drop n (elements_of p))

-- the level within a frame that is not on the stack, without the n uppermost elements
abbrev pub level_within : Frame → ℕ → Start → Parser → Level
level_within f n s p = within s p.frames.stack.items f (drop n (elements_of p))

-- whatever the outcome of a rule, it leads on; without the n uppermost elements
abbrev pub GoesOnBy : Rule → ℕ → Start → Parser → Type 0
GoesOnBy r n s p = RuleLeads r (CoreMade (level n s p)) (left_of p)

-- how many elements a state refers to, in addition to those of all frames
abbrev pub state_count : State → ℕ
state_count state.Next = 0
state_count (state.Core core) = 1
state_count (state.Atom core scripts) = script_count scripts + 1
state_count (state.Operand operand) = 1
state_count (state.Word ws place c) = ws.count
state_count (state.Words ws) = ws.count
state_count (state.End count) = 0
state_count state.Refused = 0

-- What holds of a state.
abbrev pub Claims : Start → Parser → State → Type 0
Claims s p state.Next = Leads (level 0 s p) (left_of p)
Claims s p (state.Core core) = CoreMade (level 1 s p) (Read (core_with core (top (elements_of p))) (left_of p))
Claims s p (state.Atom core scripts) =
    ScriptsLead (level (script_count scripts + 1) s p) (base_of core scripts (elements_of p)).atom (scripts_with scripts (elements_of p)) (left_of p)
Claims s p (state.Operand operand) = OperandMade (level 1 s p) (Read (operand_with operand (top (elements_of p))) (left_of p))
Claims s p (state.Word ws place c) = WordLeads (level ws.count s p) place (context_of c) (words_with ws (elements_of p)) (left_of p)
Claims s p (state.Words ws) = PartMade (level ws.count s p) (Read (words_with ws (elements_of p)) (left_of p))
Claims s p (state.End count) = (row : Row) × (at : ℕ) × (shown row ≡ take count (elements_of p)) × Whole s (Read row (End at))
Claims s p state.Refused = IfSome (refusal_of p.refusal) (λ r. Whole s (Refused r))

-- The formula has the parser's style, and what the state claims holds.
pub record Holds (s : Start) (p : Parser) (st : State) : Type 0 where
  pub style : s.style ≡ style_of p.style
  pub claims : Claims s p st

abbrev pub HoldsIn : State → Start → Parser → Type 0
HoldsIn st s p = Holds s p st

-- the formula that a parser is to read in this form
abbrev pub start_of : Form → Parser → Start
start_of form p = record { units = left_of p; style = style_of p.style; form = form }

-- What holds of the parser before a step leads to what the next state claims.
abbrev pub LeadsOn : (Start → Parser → Type 0) → Parser → Parser → State → Result ⊤ AllocError → Type 0
LeadsOn P old new next result = (s : Start) → P s old → OnOk result (Holds s new next)

-- whatever the outcome of the rule, it leads on, in a formula of the parser's style
pub record Begins (r : Rule) (n : ℕ) (s : Start) (p : Parser) : Type 0 where
  pub style : s.style ≡ style_of p.style
  pub leads : GoesOnBy r n s p

-- whatever the outcome of the rule, it leads on, in this context, which is that of the level
pub record BeginsIn (c : Context) (r : Rule) (n : ℕ) (s : Start) (p : Parser) : Type 0 where
  pub style : s.style ≡ style_of p.style
  pub context : context_of c ≡ context_at (level n s p)
  pub leads : GoesOnBy r n s p

-- what a frame is given, and what it makes
pub data Made : Type 0 where
  core_made : Made
  atom_made : Made
  operand_made : Made
  words_made : Made

-- whether the frame waits for it
abbrev pub accepts : Made → Frame → Bool
accepts core_made frame.Text = false
accepts core_made (frame.Words place c) = false
accepts core_made (frame.Resized n size c) = false
accepts core_made f = true
accepts atom_made (frame.Row e place c row) = true
accepts atom_made f = false
accepts operand_made (frame.Last made place c) = true
accepts operand_made (frame.First one place c) = true
accepts operand_made (frame.Script base scripts on place c) = true
accepts operand_made f = false
accepts words_made frame.Text = true
accepts words_made (frame.Words place c) = true
accepts words_made (frame.Resized n size c) = true
accepts words_made f = false

-- whether the row of the whole formula waits for it, where there is no frame
abbrev pub for_row : Made → Bool
for_row core_made = true
for_row atom_made = true
for_row operand_made = false
for_row words_made = false

-- whether the first of these frames waits for it
abbrev pub first_accepts : Made → List Frame → Bool
first_accepts m [] = for_row m
first_accepts m (f ∷ fs) = accepts m f

abbrev pub row_makes : Ending → Made
row_makes ending.Operand = operand_made
row_makes (ending.Formula n) = words_made
row_makes e = core_made

abbrev pub makes : Frame → Made
makes (frame.Row e place c row) = row_makes e
makes (frame.Script base scripts on place c) = atom_made
makes (frame.Words place c) = words_made
makes (frame.Resized n size c) = words_made
makes (frame.AtomInWords n place c) = words_made
makes f = core_made

-- whether each of these frames, the innermost first, makes what the next one waits for
abbrev pub are_nested : List Frame → Bool
are_nested [] = true
are_nested (f ∷ fs) = first_accepts (makes f) fs && are_nested fs

-- the innermost frame waits for it, and each frame makes what the one around it waits for
pub record Awaits (m : Made) (p : Parser) : Type 0 where
  pub accepted : IsTrue (first_accepts m (reverse p.frames.stack.items))
  pub nested : IsTrue (are_nested (reverse p.frames.stack.items))

-- what a state gives the innermost frame; where nothing was read, it is a core that is to be read
abbrev pub given_by : State → Made
given_by (state.Atom core scripts) = atom_made
given_by (state.Operand operand) = operand_made
given_by (state.Word ws place c) = words_made
given_by (state.Words ws) = words_made
given_by st = core_made

-- There are elements for all frames, and n more.
abbrev pub HasElements : ℕ → Parser → Type 0
HasElements n p = sum_by element_count p.frames.stack.items + n ≤ length (elements_of p)

-- The state can come next. The formula may end in any frame; where it is read, its elements are there.
abbrev pub MayCome : State → Parser → Type 0
MayCome (state.End count) p = count ≤ length (elements_of p)
MayCome state.Refused p = ⊤
MayCome st p = Awaits (given_by st) p

pub record Ready (p : Parser) (st : State) : Type 0 where
  pub elements : HasElements (state_count st) p
  pub may_come : MayCome st p

-- There are elements for all frames, and n more; and the innermost frame waits for this.
pub record CanMake (m : Made) (n : ℕ) (p : Parser) : Type 0 where
  pub elements : HasElements n p
  pub awaits : Awaits m p

-- There are elements for all frames, and n more; and an atom may begin.
abbrev pub CanBegin : ℕ → Parser → Type 0
CanBegin = CanMake core_made

-- a number begins with this digit, in a context of this alphabet
abbrev pub NumberBegins : Option CodeAlphabet → ℕ → Start → Parser → Type 0
NumberBegins a digit s p = (c : Context) × (option_map alphabet_of a ≡ (context_of c).alphabet) × Begins (a_number (context_of c) digit) 0 s p

-- the frame is the innermost one
abbrev pub InnermostIs : Frame → Parser → Type 0
InnermostIs f p = (others : List Frame) × IsInnermost p.style p.frames.stack.items f others

-- the place that takes the operand, if the frame waits for one
abbrev pub operand_place : Frame → Option ℕ
operand_place (frame.Last made place c) = Some place
operand_place (frame.First one place c) = Some place
operand_place (frame.Script base scripts on place c) = Some place
operand_place f = None

-- the innermost frame waits for an operand, which this place takes
abbrev pub AwaitsOperand : ℕ → Parser → Type 0
AwaitsOperand place p = (f : Frame) × InnermostIs f p × (operand_place f ≡ Some place)

abbrev pub AwaitsCore : ℕ → Parser → Type 0
AwaitsCore place p = (c : Context) × (InnermostIs (frame.Negation place c) p ⊎ ((n : ℕ) × InnermostIs (frame.AtomInWords n place c) p))

abbrev pub AwaitsAtom : Ending → ℕ → CodeRow → Parser → Type 0
AwaitsAtom e place xs p = (c : Context) × InnermostIs (frame.Row e place c xs) p

-- The unit was taken where what is due was to be read.
pub record Took (u : Unit) (s : Start) (p : Parser) : Type 0 where
  pub style : s.style ≡ style_of p.style
  pub before : Units
  pub next : past_space before ≡ Next (unit_of u) (left_of p)
  pub leads : Leads (level 0 s p) before

-- The unit that was taken begins an atom without scripts.
abbrev pub BeginsUnit : Unit → Start → Parser → Type 0
BeginsUnit u s p = Begins (rule u.place (context_at (level 0 s p)) (piece_of u.piece)) 0 s p

-- What follows a change at this place is due in the innermost row.
pub record BeginsRest (change : Change) (place : ℕ) (s : Start) (p : Parser) : Type 0 where
  pub style : s.style ≡ style_of p.style
  pub leads : RestLeads change place (level 0 s p) (left_of p)

-- The unit was taken in a row, and is not a mark: it begins an atom without scripts, or changes what follows it.
pub record TookUnmarked (u : Unit) (s : Start) (p : Parser) : Type 0 where
  pub begins : starts.change_by (piece_of u.piece) ≡ None → BeginsUnit u s p
  pub changes : (change : Change) → starts.change_by (piece_of u.piece) ≡ Some change → BeginsRest change u.place s p

-- the mark of a unit
abbrev pub mark_model : Mark → starts.Mark
mark_model mark.Prime = starts.Prime
mark_model (mark.Script side.Below) = starts.Below
mark_model (mark.Script side.Above) = starts.Above
mark_model (mark.Limits limits) = starts.LimitsAt (limit_place_of limits)

-- The mark was taken after an atom with these scripts.
pub record TookMark (m : Mark) (place : ℕ) (l : Level) (base : Atom) (scripts : Scripts) (s : Start) (p : Parser) : Type 0 where
  pub style : s.style ≡ style_of p.style
  pub before : Units
  pub unit : grammar.Unit
  pub next : past_space before ≡ Next unit (left_of p)
  pub is : starts.mark_of unit.piece ≡ Some (mark_model m)
  pub at : unit.place ≡ place
  pub leads : ScriptsLead l base scripts before

-- The uppermost element is the operand of a script of this atom, and is this high.
pub record TookScript (c : CodeCore) (scripts : CodeScripts) (on : Side) (height : CodeHeight) (s : Start) (p : Parser) : Type 0 where
  pub style : s.style ≡ style_of p.style
  pub leads : (class : Class) → ScriptMade (level (primes_put on scripts.primes + (script_count scripts + 2)) s p) c scripts on (drop 1 (elements_of p))
      (Read (record { element = top (elements_of p); class = class; height = height_of height }) (left_of p))

-- An operand that others follow was read; its element is uppermost, and below it are those of the operands before it.
pub record FirstRead (one : First) (place : ℕ) (c : Context) (operand : CodeOperand) (s : Start) (p : Parser) : Type 0 where
  pub style : s.style ≡ style_of p.style
  pub leads : Then (after_first one place (context_of c) (context_at (level (first_count one + 1) s p)) (drop 1 (elements_of p))) (CoreMade (level (first_count one + 1) s p)) (Read (operand_with operand (top (elements_of p))) (left_of p))

-- A unit that is this piece was taken at a place, as a part of words after these.
pub record BeginsWordOf (ws : CodeWords) (piece : grammar.Piece) (place : ℕ) (c : DefinedContext) (s : Start) (p : Parser) : Type 0 where
  pub style : s.style ≡ style_of p.style
  pub taken_at : ℕ
  pub leads : WordLeads (level ws.count s p) taken_at c (words_with ws (elements_of p)) (Next (grammar.unit piece place) (left_of p))

-- In words in an alphabet, this piece is a change, which determines the alphabet of the words after it in its group.
pub record IsChange (a : Option Alphabet) (piece : grammar.Piece) (w : Word) : Type 0 where
  pub rule : word_rule a piece ≡ IsWord w
  pub behind : alphabet_behind a piece ≡ alphabet_after a (IsWord w)

-- A change was taken in words in braces, which began at a place and were read in this context up to there.
pub record ChangesWords (ws : CodeWords) (place : ℕ) (c : DefinedContext) (w : Word) (s : Start) (p : Parser) : Type 0 where
  pub style : s.style ≡ style_of p.style
  pub taken : grammar.Unit
  pub other : IsFalse (starts.is_close taken.piece)
  pub change : IsChange c.alphabet taken.piece w
  pub leads : PartMade (words place c (PartMade (level ws.count s p))) (Read (words_with ws (elements_of p)) (grammar.Next taken (left_of p)))

-- Words in braces that began at a place go on in this size, after those that were read in this context.
pub record GoesOnInSize (ws : CodeWords) (place : ℕ) (size : TextSize) (c : DefinedContext) (s : Start) (p : Parser) : Type 0 where
  pub style : s.style ≡ style_of p.style
  pub leads : PartMade (words place (in_size c size) (λ o. PartMade (level ws.count s p) (as_resized size c (with_accent_ended (words_with ws (elements_of p))).elements o)))
      (Read no_words (left_of p))

-- Words in braces that began at a place go on in this context.
pub record GoesOnInBraces (ws : CodeWords) (place : ℕ) (c : DefinedContext) (s : Start) (p : Parser) : Type 0 where
  pub style : s.style ≡ style_of p.style
  pub leads : PartMade (words place c (PartMade (level ws.count s p))) (Read (words_with ws (elements_of p)) (left_of p))

-- The words are followed by an atom, which the rule makes in this context.
pub record ShowsAtomOf (ws : CodeWords) (r : Rule) (s : Start) (p : Parser) : Type 0 where
  pub style : s.style ≡ style_of p.style
  pub leads : RuleLeads r (λ o. PartMade (level ws.count s p) (as_atom_in_words (with_accent_ended (words_with ws (elements_of p))).elements o)) (left_of p)

-- The words followed by this part lead on.
pub record WordGiven (ws : CodeWords) (w : Word) (s : Start) (p : Parser) : Type 0 where
  pub style : s.style ≡ style_of p.style
  pub leads : PartMade (level ws.count s p) (Read (with_word (words_with ws (elements_of p)) w) (left_of p))

-- This character was taken in words in braces: what it and those that join it are set as leads on, after these words.
pub record JoinsWords (ws : CodeWords) (first : ℕ) (a : Option Alphabet) (s : Start) (p : Parser) : Type 0 where
  pub style : s.style ≡ style_of p.style
  pub leads : PartMade (level ws.count s p) (Read (with_word (words_with ws (elements_of p)) (shown_character a (joined first (left_of p)).0)) (joined first (left_of p)).1)

-- The brace of these words was taken.
pub record EndsGroupOf (ws : CodeWords) (s : Start) (p : Parser) : Type 0 where
  pub style : s.style ≡ style_of p.style
  pub leads : PartMade (level ws.count s p) (Read (with_accent_ended (words_with ws (elements_of p))) (left_of p))

-- A delimiter within others is due.
pub record BeginsDivider (s : Start) (p : Parser) : Type 0 where
  pub style : s.style ≡ style_of p.style
  pub leads : RuleLeads (takes_delimiter (λ text. gives (core (divider text)))) (λ o. AtomMade (level 0 s p) (as_atom o)) (left_of p)

-- The uppermost element is that of an atom in the innermost row.
pub record MadeAtom (c : CodeCore) (s : Start) (p : Parser) : Type 0 where
  pub style : s.style ≡ style_of p.style
  pub leads : AtomMade (level 1 s p) (Read (core_with c (top (elements_of p))).atom (left_of p))

-- The row ends; its frame is taken off.
pub record ClosesRow (e : Ending) (place : ℕ) (xs : CodeRow) (s : Start) (p : Parser) : Type 0 where
  pub style : s.style ≡ style_of p.style
  pub leads : RowMade s e place (drop xs.count (elements_of p)) (level (xs.count + ending_count e) s p) (Read (row_with xs (elements_of p)) (left_of p))

-- The row ends before this unit, which was taken; its frame is taken off.
pub record ClosesBefore (e : Ending) (place : ℕ) (xs : CodeRow) (u : Unit) (s : Start) (p : Parser) : Type 0 where
  pub style : s.style ≡ style_of p.style
  pub before : Units
  pub next : past_space before ≡ Next (unit_of u) (left_of p)
  pub leads : RowMade s e place (drop xs.count (elements_of p)) (level (xs.count + ending_count e) s p) (Read (row_with xs (elements_of p)) before)

-- the unit ends a row with this ending, wherever the row begins
abbrev pub IsEnding : Ending → grammar.Piece → Type 0
IsEnding e piece = (place : ℕ) → starts.ends (ending_of e place) piece ≡ true

-- A cell ends with this unit.
abbrev pub ClosesCell : Table → ℕ → CodeRow → Unit → Start → Parser → Type 0
ClosesCell t place xs u s p = ClosesBefore (ending.Cell t) place xs u s p

-- The row ends with this unit.
abbrev pub Closes : Ending → ℕ → CodeRow → Unit → Start → Parser → Type 0
Closes (ending.Cell t) place xs u s p = ClosesCell t place xs u s p
Closes (ending.FirstLabel k) place xs u s p = ClosesBefore (ending.FirstLabel k) place xs u s p
Closes (ending.SecondLabel k) place xs u s p = ClosesBefore (ending.SecondLabel k) place xs u s p
Closes e place xs u s p = ClosesRow e place xs s p

-- The next cell of a table is due.
pub record GoesOnTable (t : Table) (place : ℕ) (s : Start) (p : Parser) : Type 0 where
  pub style : s.style ≡ style_of p.style
  pub leads : (o : Outcome Lines)
      → ReadsRows (table_end t) place (columns_in t.kind) (cell_context t (context_at (level (t.cells + t.rows) s p))) (rows_of t (elements_of p)) (cells_of t (elements_of p)) (left_of p) o
      → RowsLead (behind_rows t (context_at (level (t.cells + t.rows) s p))) (CoreMade (level (t.cells + t.rows) s p)) o

-- A table is due, and the line before its first row, if there is one.
pub record BeginsTable (k : TableKind) (place : ℕ) (s : Start) (p : Parser) : Type 0 where
  pub style : s.style ≡ style_of p.style
  pub leads : (o : Outcome Lines)
      → ReadsRows (ended_by k) place (columns_in k) (styled (context_at (level 0 s p)) (style_in k)) (lined (line_next (left_of p)) []) [] (past BeforeRow (left_of p)) o
      → RowsLead (after_rows k (context_at (level 0 s p))) (CoreMade (level 0 s p)) o

-- A table ends at this place, after its last cell, whose elements are the `count` uppermost ones, and whose last atom is of this kind.
pub record EndsCells (t : Table) (count : ℕ) (last : AtomKind) (at : ℕ) (s : Start) (p : Parser) : Type 0 where
  pub style : s.style ≡ style_of p.style
  pub leads : RuleLeads (behind_rows t (context_at (level (count + (t.cells + t.rows)) s p)) (with_last (columns_in t.kind) (rows_of t (drop count (elements_of p))) (cells_of t (drop count (elements_of p))) (lone (kind_of last) (take count (elements_of p)))) at)
      (CoreMade (level (count + (t.cells + t.rows)) s p)) (left_of p)

-- The end of a table was taken at this place. Its rows are the `rows` uppermost elements.
pub record EndsRows (e : TableKind) (rows at : ℕ) (s : Start) (p : Parser) : Type 0 where
  pub style : s.style ≡ style_of p.style
  pub lines : Lines
  pub are : take rows (elements_of p) ≡ lines.last ∷ lines.others
  pub leads : RuleLeads (after_rows e (context_at (level rows s p)) lines at) (CoreMade (level rows s p)) (left_of p)

-- A table is made of the `rows` uppermost elements. Its cells have this style.
pub record MakesTable (delimiters : Option (Option ℕ × Option ℕ)) (columns : Columns) (own : Style) (rows : ℕ) (s : Start) (p : Parser) : Type 0 where
  pub style : s.style ≡ style_of p.style
  pub lines : Lines
  pub are : take rows (elements_of p) ≡ lines.last ∷ lines.others
  pub leads : RuleLeads (gives (a_table (option_map delimiter_texts delimiters) (columns_of columns) (style_of own) (context_at (level rows s p)).style lines)) (CoreMade (level rows s p)) (left_of p)

-- A text was taken from this spot on, or what is there is refused, and then some of it may have been taken.
abbrev pub TookText : ℕ → Spot → Parser → Parser → Option (List ℕ) → Type 0
TookText place spot old new (Some text) = (new ≡ record old { input = new.input }) × (scan place (left_of old) spot ≡ Given text (left_of new))
TookText place spot old new None =
    (r : Refusal)
    × ((new ≡ record old { input = new.input; refusal = new.refusal })
    × ((refusal_of new.refusal ≡ Some r) × ((unit_count (left_of new) ≤ unit_count (left_of old)) × (scan place (left_of old) spot ≡ Missing r))))

-- why nothing is taken: what is to be taken is not here, or its text has no value
pub data NoValue {A : Type 0} (place : ℕ) (spot : Spot) (value : List ℕ → Option A) (no_value : List ℕ → Refusal) (l : Units) : Refusal → Type 0 where
  is_missing : {r : Refusal} → scan place l spot ≡ Missing r → NoValue place spot value no_value l r
  has_none : {text : List ℕ} {m : Units} → scan place l spot ≡ Given text m → value text ≡ None → NoValue place spot value no_value l (no_value text)

-- The value of the text that is found from this spot on was taken, or the formula is refused.
abbrev pub TookValue : {A : Type 0} → ℕ → Spot → (List ℕ → Option A) → (List ℕ → Refusal) → Parser → Parser → Option A → Type 0
TookValue place spot value no_value old new (Some x) =
    (new ≡ record old { input = new.input }) × ((text : List ℕ) × ((scan place (left_of old) spot ≡ Given text (left_of new)) × (value text ≡ Some x)))
TookValue place spot value no_value old new None =
    (r : Refusal)
    × ((new ≡ record old { input = new.input; refusal = new.refusal })
    × ((refusal_of new.refusal ≡ Some r) × ((unit_count (left_of new) ≤ unit_count (left_of old)) × NoValue place spot value no_value (left_of old) r)))

-- what a row leaves if it ends with this unit, which was taken: a cell or a label leaves what ends it
abbrev pub IsLeft : Ending → Unit → Units → Units → Type 0
IsLeft (ending.Cell t) u rest left = past_space rest ≡ Next (unit_of u) left
IsLeft (ending.FirstLabel k) u rest left = past_space rest ≡ Next (unit_of u) left
IsLeft (ending.SecondLabel k) u rest left = past_space rest ≡ Next (unit_of u) left
IsLeft e u rest left = rest ≡ left

-- The row ends with this unit, as it was read so far in this style.
pub record EndsRow (e : Ending) (place : ℕ) (style : CodeStyle) (xs : CodeRow) (u : Unit) (s : Start) (p : Parser) : Type 0 where
  pub same_style : s.style ≡ style_of p.style
  pub rest : Units
  pub left : IsLeft e u rest (left_of p)
  pub leads : RowMade s e place (drop (row_count xs) (elements_of p)) (level (row_count xs + ending_count e) s p)
      (Read (finished (style_of style) (row_with xs (elements_of p))) rest)

-- The whole formula ends with the text.
pub record EndsFormula (style : CodeStyle) (xs : CodeRow) (s : Start) (p : Parser) : Type 0 where
  pub same_style : s.style ≡ style_of p.style
  pub at : ℕ
  pub leads : Whole s (Read (finished (style_of style) (row_with xs (elements_of p))) (End at))

-- The row ends with the text, at this place, as it was read so far in this style.
pub record EndsWithText (e : Ending) (place : ℕ) (style : CodeStyle) (xs : CodeRow) (at : ℕ) (s : Start) (p : Parser) : Type 0 where
  pub same_style : s.style ≡ style_of p.style
  pub left : left_of p ≡ End at
  pub leads : RowMade s e place (drop (row_count xs) (elements_of p)) (level (row_count xs + ending_count e) s p)
      (Read (finished (style_of style) (row_with xs (elements_of p))) (End at))

-- The text ends at this place in a row, which was read so far in this style. Its frame is taken off.
pub record EndsText (e : Ending) (place : ℕ) (style : CodeStyle) (xs : CodeRow) (at : ℕ) (s : Start) (p : Parser) : Type 0 where
  pub same_style : s.style ≡ style_of p.style
  pub ends : unended (ending_of e place) ≡ None → EndsWithText e place style xs at s p
  pub refuses : (r : Refusal) → unended (ending_of e place) ≡ Some r → Whole s (Refused r)

-- how much a frame still brings; the row of the whole text may be opened where nothing is read
abbrev pub ending_weight : Ending → ℕ
ending_weight ending.Text = 0
ending_weight e = 4

abbrev pub frame_weight : Frame → ℕ
frame_weight (frame.Row e place c row) = ending_weight e
frame_weight (frame.First one place c) = 8
frame_weight (frame.AtomInWords n place c) = 0
frame_weight f = 4

abbrev pub state_weight : State → ℕ
state_weight state.Next = 1
state_weight (state.Core core) = 3
state_weight (state.Atom core scripts) = 2
state_weight (state.Operand operand) = 2
state_weight (state.Word ws place c) = 1
state_weight (state.Words ws) = 2
state_weight (state.End count) = 0
state_weight state.Refused = 0

-- what the units that are left and the frames still bring
abbrev pub to_do : Parser → ℕ
to_do p = 16 * unit_count (left_of p) + sum_by frame_weight p.frames.stack.items

-- The state can come next, and less than the bound is left to do.
pub record Follows (bound : ℕ) (p : Parser) (st : State) : Type 0 where
  pub ready : Ready p st
  pub falls : to_do p + state_weight st < bound

-- after a step, less is left to do than what was left before it and `more`
abbrev pub Advances : ℕ → Parser → Parser → State → Result ⊤ AllocError → Type 0
Advances more old new next answer = OnOk answer (Follows (to_do old + more) new next)

-- the last state: the formula is read, or it is refused
abbrev pub last_state : Option ℕ → State
last_state (Some count) = state.End count
last_state None = state.Refused
