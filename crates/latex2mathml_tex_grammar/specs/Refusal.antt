-- Why a text is refused, and where.
use Rattle.std.specs.Prelude.{ℕ, List}

-- the kinds of refusals; a name is its bytes, without the backslash
pub data Kind : Type 0 where
  -- a backslash ends the text
  LoneBackslash : Kind
  -- XML forbids this character
  ForbiddenCharacter : ℕ → Kind
  -- no command has this name
  UnknownCommand : List ℕ → Kind
  -- what a command or a sign takes is not there
  MissingArgument : Kind
  -- what begins here does not end
  UnclosedBrace : Kind
  UnclosedBracket : Kind
  UnclosedDollar : Kind
  LeftWithoutRight : Kind
  -- what ends here does not begin
  UnopenedBrace : Kind
  RightWithoutLeft : Kind
  MiddleWithoutLeft : Kind
  -- `\limits` or the like that does not follow an operator
  LimitsWithoutOperator : Kind
  -- a second script of one atom
  SecondSubscript : Kind
  SecondSuperscript : Kind
  -- there is no length where there has to be one
  MissingLength : Kind
  -- a length of more than 16384 points
  LengthTooLarge : Kind
  -- no color has this name
  UnknownColor : List ℕ → Kind
  -- what changes the rest of its group is where an argument has to be
  ChangeAsArgument : Kind
  -- a second `\over` or the like in one group
  SecondInfix : Kind
  -- there is no delimiter here
  MissingDelimiter : Kind
  -- what follows `\not` takes no stroke
  NothingToNegate : Kind
  -- a sign that is allowed in tables only
  OutsideTable : Kind
  -- what follows an at sign in a diagram is no arrow, or one without its last sign
  IncompleteArrow : Kind
  -- no name follows `\begin` or `\end`
  MissingName : Kind
  -- no environment has this name
  UnknownEnvironment : List ℕ → Kind
  BeginWithoutEnd : Kind
  EndWithoutBegin : Kind
  -- what begins with one name ends with another
  OtherName : Kind
  -- what is among columns is not a column
  UnknownColumn : Kind
  TooManyColumns : Kind
  -- a character that has no meaning in a formula
  MisplacedCharacter : ℕ → Kind
  -- what is not allowed in words
  CommandInWords : List ℕ → Kind
  CharacterInWords : ℕ → Kind
  -- too many macros are used, or they put too many units: either way the expansion may never end
  TooManyExpansions : Kind
  -- what a definition is to define is not a name
  MissingMacroName : Kind
  -- what precedes the body of a definition does not say how many arguments there are
  WrongParameters : Kind
  -- a sign that is a part of the use of a macro is not there
  WrongUse : Kind
  -- a body asks for an argument that does not exist
  UnknownParameter : Kind
  -- what is among definitions is not a definition
  NoDefinition : Kind

-- a kind, and the byte of the text where what is refused begins
pub record Refusal : Type 0 where
  pub kind : Kind
  pub place : ℕ

-- the refusal of this kind at this place
abbrev pub refusal_at : Kind → ℕ → Refusal
refusal_at kind place = record { kind = kind; place = place }
