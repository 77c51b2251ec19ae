-- How atoms, operands and scripts begin and end: what each unit is to them.
use Rattle.std.specs.Prelude.{ℕ, suc, ◌==◌, ◌||◌, Bool, true, false, List, [], codes, Option, Some, None, if◌then◌else◌}
use Rattle.std.specs.{Str.byte, Str.bytes_eq}
use Rattle.latex2mathml_elements.specs.Element.{Element}
use Rattle.latex2mathml_tex_grammar.specs.Heights.{Low}
use Rattle.latex2mathml_tex_grammar.specs.{Atoms.Atom, Atoms.Plain, Atoms.atom, Commands.meaning_of, Makes.Scripts, Makes.behind_primes, Rows.Operand, Rows.row_element, Rules.a_digit}
use Rattle.latex2mathml_tex_grammar.specs.Meaning.{Change, Changes, Meaning, LimitPlace, Beside, ByStyle, Stacked}
use Rattle.latex2mathml_tex_grammar.specs.Refusal.{Kind, UnclosedBrace, UnclosedBracket, UnclosedDollar, LeftWithoutRight, LimitsWithoutOperator, SecondSubscript, SecondSuperscript, Refusal, refusal_at, BeginWithoutEnd, IncompleteArrow}
use Rattle.latex2mathml_tex_grammar.specs.Diagrams.{direction_sign}
use Rattle.latex2mathml_tex_grammar.specs.Rules.{Ending, WholeText, InBraces, InBrackets, InDollars, InDelimiters, InCell, InLabel, ByName, OfDiagram, ByBrace, ByText}
use Rattle.latex2mathml_tex_grammar.specs.Symbols.{Ordinary}
use Rattle.latex2mathml_tex_grammar.specs.Units.{Piece, Open, Close, Command, Character, Unit, Units, Next, End, Stop}

-- What ends a sequence of atoms

-- whether a unit is the command of this name
abbrev pub is_command : List ℕ → Piece → Bool
is_command name (Command other) = bytes_eq name other
is_command name piece = false

-- whether a unit is this character
abbrev pub is_character : ℕ → Piece → Bool
is_character c (Character d) = c == d
is_character c piece = false

-- whether a unit is a closing brace
abbrev pub is_close : Piece → Bool
is_close Close = true
is_close piece = false

-- what ends a row of a table
abbrev pub is_break : Piece → Bool
is_break piece = is_command (codes "\\") piece || is_command (codes "cr") piece || is_command (codes "newline") piece

-- what ends a cell: it separates it from the next cell, or begins the arrow of a diagram, or ends its row, or ends the table
pub data CellEnd : Type 0 where
  PartsCells : CellEnd
  BeginsArrow : CellEnd
  EndsRow : CellEnd
  EndsTable : CellEnd

-- what a unit that ends a cell does
abbrev pub cell_end : Piece → CellEnd
cell_end piece =
    if is_character (byte "&") piece then PartsCells
    else if is_character (byte "@") piece then BeginsArrow
    else if is_break piece then EndsRow
    else EndsTable

-- whether a unit ends a cell of a diagram
abbrev pub ends_in_diagram : Piece → Bool
ends_in_diagram piece = is_command (codes "end") piece || is_character (byte "&") piece || is_character (byte "@") piece || is_break piece

-- whether the unit is the ending
abbrev pub ends : Ending → Piece → Bool
ends WholeText piece = false
ends (InBraces place) piece = is_close piece
ends (InBrackets place) piece = is_character (byte "]") piece
ends (InDollars place) piece = is_character (byte "$") piece
ends (InDelimiters place) piece = is_command (codes "right") piece
ends (InCell ByName place) piece = is_command (codes "end") piece || is_character (byte "&") piece || is_break piece
ends (InCell OfDiagram place) piece = ends_in_diagram piece
ends (InCell ByBrace place) piece = is_close piece || is_break piece
ends (InCell ByText place) piece = is_character (byte "&") piece || is_break piece
ends (InLabel direction place) piece = is_character (direction_sign direction) piece || ends_in_diagram piece

-- the units that are left after atoms, where these are the ending and the units after it: what ends a cell says how the
-- table goes on, and is not taken with the cell. What ends a label may also end the cell in which it is.
abbrev pub left_behind : Ending → Unit → Units → Units
left_behind (InCell end place) u l = Next u l
left_behind (InLabel direction place) u l = Next u l
left_behind ending u l = l

-- why atoms are refused if their ending is missing, where there has to be one
abbrev pub unended : Ending → Option Refusal
unended WholeText = None
unended (InBraces place) = Some (refusal_at UnclosedBrace place)
unended (InBrackets place) = Some (refusal_at UnclosedBracket place)
unended (InDollars place) = Some (refusal_at UnclosedDollar place)
unended (InDelimiters place) = Some (refusal_at LeftWithoutRight place)
unended (InCell ByName place) = Some (refusal_at BeginWithoutEnd place)
unended (InCell OfDiagram place) = Some (refusal_at BeginWithoutEnd place)
unended (InCell ByBrace place) = Some (refusal_at UnclosedBrace place)
unended (InCell ByText place) = None
unended (InLabel direction place) = Some (refusal_at IncompleteArrow place)

-- Atoms and operands begin with a unit

-- how an atom begins
pub data AtomStart : Type 0 where
  -- with a delimiter within others
  DividerStart : AtomStart
  -- with a script or a prime, whose base is an empty row
  ScriptStart : AtomStart
  -- with a unit that has a rule
  RuleStart : AtomStart
  -- no atom begins: what follows in the group is changed
  ChangeStart : Change → AtomStart

-- how an operand begins
pub data OperandStart : Type 0 where
  -- no operand begins with the unit
  NoStart : OperandStart
  GroupStart : OperandStart
  -- with a digit, which is the whole operand
  DigitStart : List ℕ → OperandStart
  OtherStart : OperandStart

-- what continues an atom: a prime, a script, or where its limits are to be
pub data Mark : Type 0 where
  Prime : Mark
  Below : Mark
  Above : Mark
  LimitsAt : LimitPlace → Mark

-- the mark that a unit is, where it is one
abbrev pub mark_of : Piece → Option Mark
mark_of (Character c) =
    if c == byte "'" then Some Prime
    else if c == byte "_" then Some Below
    else if c == byte "^" then Some Above
    else None
mark_of (Command name) =
    if bytes_eq name (codes "limits") then Some (LimitsAt Stacked)
    else if bytes_eq name (codes "nolimits") then Some (LimitsAt Beside)
    else if bytes_eq name (codes "displaylimits") then Some (LimitsAt ByStyle)
    else None
mark_of piece = None

-- the change that a command makes, where it makes one
abbrev pub change_meant : Option Meaning → Option Change
change_meant (Some (Changes change)) = Some change
change_meant meaning = None

-- the change of style or color that a unit begins, if it begins one
abbrev pub change_by : Piece → Option Change
change_by (Command name) = change_meant (meaning_of name)
change_by piece = None

-- how an atom starts that is not a mark
abbrev pub start_of_change : Option Change → AtomStart
start_of_change (Some change) = ChangeStart change
start_of_change None = RuleStart

-- how an atom starts: with a script that has no base, a change, or a rule
abbrev pub start_of_mark : Option Change → Option Mark → AtomStart
start_of_mark change (Some Prime) = ScriptStart
start_of_mark change (Some Below) = ScriptStart
start_of_mark change (Some Above) = ScriptStart
start_of_mark change (Some (LimitsAt place)) = RuleStart
start_of_mark change None = start_of_change change

-- how an atom begins with this unit, among atoms with this ending
abbrev pub atom_start : Ending → Piece → AtomStart
atom_start (InDelimiters place) piece = if is_command (codes "middle") piece then DividerStart else start_of_mark (change_by piece) (mark_of piece)
atom_start ending piece = start_of_mark (change_by piece) (mark_of piece)

-- what ends atoms, or continues one, is not an operand
abbrev pub is_no_operand : Piece → Bool
is_no_operand piece =
    is_close piece || is_character (byte "&") piece || is_character (byte "_") piece || is_character (byte "^") piece || is_character (byte "'") piece
    || is_break piece || is_command (codes "end") piece || is_command (codes "right") piece || is_command (codes "middle") piece || is_command (codes "limits") piece || is_command (codes "nolimits") piece || is_command (codes "displaylimits") piece

-- whether a unit is an opening brace
abbrev pub is_open : Piece → Bool
is_open Open = true
is_open piece = false

-- how an operand starts that is no group: with this digit, or otherwise
abbrev pub start_of_digit : Option (List ℕ) → OperandStart
start_of_digit (Some digit) = DigitStart digit
start_of_digit None = OtherStart

-- how an operand begins with this unit
abbrev pub operand_start : Piece → OperandStart
operand_start piece =
    if is_no_operand piece then NoStart
    else if is_open piece then GroupStart
    else start_of_digit (a_digit piece)

-- Scripts

-- what a mark does after an atom with these scripts
pub data Step : Type 0 where
  GoesOn : Scripts → Step
  TakesOperand : (Operand → Scripts) → Step
  -- a second script, or limits of what is not an operator
  Forbidden : Kind → Step

-- what a mark does after an atom with these scripts, by what is below and above the atom already
abbrev pub step_of : Scripts → Option Element → Option Element → Mark → Step
step_of scripts below (Some x) Prime = Forbidden SecondSuperscript
step_of scripts below None Prime = GoesOn (record scripts { primes = suc scripts.primes })
step_of scripts (Some x) above Below = Forbidden SecondSubscript
step_of scripts None above Below = TakesOperand (λ x. record scripts { below = Some x.element; height = x.height })
step_of scripts below (Some x) Above = Forbidden SecondSuperscript
step_of scripts below None Above = TakesOperand (λ x. record scripts { above = Some (behind_primes scripts.primes x.element) })
step_of scripts below above (LimitsAt place) = if scripts.takes_limits then GoesOn (record scripts { limits = place }) else Forbidden LimitsWithoutOperator

-- the step of the unit that comes next, where it is a mark
abbrev pub step_of_mark : Scripts → Option Mark → Option Step
step_of_mark scripts None = None
step_of_mark scripts (Some mark) = Some (step_of scripts scripts.below scripts.above mark)

-- what the next unit adds to these scripts, if it adds anything
abbrev pub step_next : Scripts → Units → Option Step
step_next scripts (Next u us) = step_of_mark scripts (mark_of u.piece)
step_next scripts (End place) = None
step_next scripts (Stop refusal) = None

-- the row that is the base of scripts where no atom precedes them
abbrev pub empty_base : Atom
empty_base = atom (Plain Ordinary) Low (row_element [])
