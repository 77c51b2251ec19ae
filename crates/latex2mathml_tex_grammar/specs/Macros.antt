-- Macros: what a name means, and what takes the place of its use.
use Rattle.std.specs.Prelude.{◌≡◌, ℕ, zero, suc, ◌-◌, List, [], ◌∷◌, ◌++◌, Option, Some, None, if◌then◌else◌}
use Rattle.std.specs.Str.{bytes_eq}
use Rattle.latex2mathml_tex_grammar.specs.Bars.{Bars, split}
use Rattle.latex2mathml_tex_grammar.specs.Units.{Piece, Command, Unit, unit, Units, Next}

-- a part of a body
pub data Part : Type 0 where
  -- a piece, as it is
  Fixed : Piece → Part
  -- an argument, by its number, counted from 0
  Argument : ℕ → Part
  -- the same, divided by bars
  Split : Bars → ℕ → Part

-- what a macro takes: the text of the parameters in its definition, part by part
pub data Taken : Type 0 where
  -- a parameter, for which an argument is given. If a sign follows the parameter, the argument ends before this sign.
  Parameter : Taken
  -- a sign, which must be there: a command, a character or white space
  Sign : Piece → Taken

-- what a macro takes, and what replaces it
pub record Macro : Type 0 where
  -- the piece that its name means, if the name is only another one for this piece. Then it takes nothing, and nothing replaces it.
  pub alias : Option Piece
  -- what replaces it if a star follows its name, if it takes a star
  pub starred : Option (List Part)
  -- the default of its first argument, if that one can be left out. With a star, there is no such argument.
  pub default : Option (List Part)
  -- all else that it takes
  pub takes : List Taken
  pub body : List Part

-- this many parameters, with no sign between them
abbrev pub parameters : ℕ → List Taken
parameters zero = []
parameters (suc n) = Parameter ∷ parameters n

-- a macro of its four parts, whose name is not only another name
abbrev pub macro_of_parts : Option (List Part) → Option (List Part) → List Taken → List Part → Macro
macro_of_parts starred default takes body = record { alias = None; starred = starred; default = default; takes = takes; body = body }

-- another name for this piece
abbrev pub alias : Piece → Macro
alias piece = record { alias = Some piece; starred = None; default = None; takes = []; body = [] }

-- a macro of which no argument can be left out, and which takes no star
abbrev pub macro_taking : List Taken → List Part → Macro
macro_taking takes body = macro_of_parts None None takes body

-- such a macro of this many arguments
abbrev pub macro : ℕ → List Part → Macro
macro arity body = macro_taking (parameters arity) body

-- a macro of this many arguments, the first of which can be left out if it has a default
abbrev pub macro_with_default : Option (List Part) → ℕ → List Part → Macro
macro_with_default None n body = macro n body
macro_with_default (Some default) n body = macro_of_parts None (Some default) (parameters (n - 1)) body

-- the macros that hold: what each name means, where it is the name of one. A name is its bytes, without the backslash.
abbrev pub Table : Type 0
Table = List ℕ → Option Macro

-- each name means the same in both
abbrev pub SameMacros : Table → Table → Type 0
SameMacros macros others = (name : List ℕ) → macros name ≡ others name

-- from here on the name means this macro, whatever it meant before
abbrev pub with_macro : List ℕ → Macro → Table → Table
with_macro name m table other = if bytes_eq name other then Some m else table other

-- the macro that a unit uses
abbrev pub macro_of : Table → Piece → Option Macro
macro_of table (Command name) = table name
macro_of table piece = None

-- the argument with this number
abbrev pub argument_at : List (List Unit) → ℕ → List Unit
argument_at [] k = []
argument_at (arg ∷ args) zero = arg
argument_at (arg ∷ args) (suc k) = argument_at args k

-- what a part of a body puts. Pieces of a body have the place of the macro's use, units of arguments keep theirs, and what takes
-- the place of a bar has that of the bar.
abbrev pub put_part : List (List Unit) → ℕ → Part → List Unit
put_part args place (Fixed piece) = unit piece place ∷ []
put_part args place (Argument k) = argument_at args k
put_part args place (Split bars k) = split bars (argument_at args k)

-- what replaces a macro that is used with these arguments at this place
abbrev pub put : List (List Unit) → ℕ → List Part → List Unit
put args place [] = []
put args place (part ∷ parts) = put_part args place part ++ put args place parts

-- these units, then those
abbrev pub before : List Unit → Units → Units
before [] l = l
before (u ∷ us) l = Next u (before us l)

-- how many units there are
abbrev pub unit_count : Units → ℕ
unit_count (Next u l) = suc (unit_count l)
unit_count l = 0
