-- Definitions, which are part of the text. Each is a word, a name, how many arguments the macro takes, and its body. What
-- is not one is refused: at the word, at a brace that is not closed, or where there is no unit. White space between the
-- parts is ignored, but among parameters it is a sign.
use Rattle.std.specs.Prelude.{ℕ, zero, suc, ◌+◌, ◌-◌, Bool, true, false, ◌&&◌, nat_lt, List, [], ◌∷◌, ◌++◌, codes, Option, Some, None, if◌then◌else◌}
use Rattle.std.specs.{Char.is_ascii_digit, Option.unwrap_or, Str.byte, Str.bytes_eq}
pub use Rattle.latex2mathml_tex_grammar.specs.Arguments.{is_character}
use Rattle.latex2mathml_tex_grammar.specs.Arguments.{argument, optional, and_then, with_first}
use Rattle.latex2mathml_tex_grammar.specs.Macros.{Part, Fixed, Argument, Taken, Parameter, Sign, Macro, alias, macro, macro_of, macro_of_parts, macro_taking, macro_with_default, parameters, Table, with_macro}
use Rattle.latex2mathml_tex_grammar.specs.{Next.is_space_piece, Next.past_space, Reading.Outcome, Reading.Read, Reading.Refused}
use Rattle.latex2mathml_tex_grammar.specs.Refusal.{MissingArgument, MissingMacroName, WrongParameters, UnknownParameter, refusal_at}
use Rattle.latex2mathml_tex_grammar.specs.Units.{Piece, Open, Close, Command, Character, Unit, Units, Next, End, Stop}

-- the words that define
pub data Word : Type 0 where
  -- `\newcommand`, `\renewcommand` and `\DeclareRobustCommand`. Each redefines a name that already means a macro.
  NewCommand : Word
  -- `\providecommand`, which leaves such a name as it is
  ProvideCommand : Word
  -- `\def`, and `\gdef`, which is the same here, since each definition holds to the end of its text
  Def : Word
  -- `\DeclareMathOperator`
  DeclareOperator : Word
  -- `\DeclarePairedDelimiter`
  DeclareDelimiters : Word
  -- `\let`, after which a name means what another one means now
  Let : Word

-- the word that has this name, if one does
abbrev pub word_named : List ℕ → Option Word
word_named name =
    if bytes_eq name (codes "newcommand") then Some NewCommand
    else if bytes_eq name (codes "renewcommand") then Some NewCommand
    else if bytes_eq name (codes "DeclareRobustCommand") then Some NewCommand
    else if bytes_eq name (codes "providecommand") then Some ProvideCommand
    else if bytes_eq name (codes "def") then Some Def
    else if bytes_eq name (codes "gdef") then Some Def
    else if bytes_eq name (codes "DeclareMathOperator") then Some DeclareOperator
    else if bytes_eq name (codes "DeclarePairedDelimiter") then Some DeclareDelimiters
    else if bytes_eq name (codes "let") then Some Let
    else None

-- what is defined
pub record Definition : Type 0 where
  pub name : List ℕ
  pub stands_for : Macro

-- a definition of this name
abbrev pub definition : List ℕ → Macro → Definition
definition name m = record { name = name; stands_for = m }

-- Signs between the parts

-- whether the very next unit is this character, and the units after it, where it is
abbrev pub sign_here : ℕ → Units → Bool × Units
sign_here c (Next u l) = if is_character c u.piece then (true, l) else (false, Next u l)
sign_here c (End place) = (false, End place)
sign_here c (Stop r) = (false, Stop r)

-- whether this character comes next, and the units after it, where it does
abbrev pub sign : ℕ → Units → Bool × Units
sign c l = sign_here c (past_space l)

-- the digit that a unit is, if it is one
abbrev pub digit_of : Piece → Option ℕ
digit_of (Character c) = if is_ascii_digit c then Some (c - byte "0") else None
digit_of piece = None

-- this digit and the units after it, or all of the units
abbrev pub digit_found : Option ℕ → Unit → Units → Option ℕ × Units
digit_found (Some d) u l = (Some d, l)
digit_found None u l = (None, Next u l)

-- the digit that the very next unit is, if it is one, and the units after it
abbrev pub digit_here : Units → Option ℕ × Units
digit_here (Next u l) = digit_found (digit_of u.piece) u l
digit_here (End place) = (None, End place)
digit_here (Stop r) = (None, Stop r)

-- the number that comes next, which is one digit, and the units after it
abbrev pub digit : Units → Option ℕ × Units
digit l = digit_here (past_space l)

-- The name, which may be between braces

-- whether all of the units are spaces
abbrev pub are_space : List Unit → Bool
are_space [] = true
are_space (u ∷ us) = is_space_piece u.piece && are_space us

-- the name of this unit, if it is a command and only spaces follow it
abbrev pub only_name : Piece → List Unit → Option (List ℕ)
only_name (Command name) us = if are_space us then Some name else None
only_name piece us = None

-- the one command that these units are, white space aside
abbrev pub name_in : List Unit → Option (List ℕ)
name_in [] = None
name_in (u ∷ us) = if is_space_piece u.piece then name_in us else only_name u.piece us

-- this name, or the refusal of what is none
abbrev pub name_read : ℕ → Option (List ℕ) → Units → Outcome (List ℕ)
name_read place (Some name) l = Read name l
name_read place None l = Refused (refusal_at MissingMacroName place)

-- the name that a definition at this place defines, and the units after it
abbrev pub name_of : ℕ → Units → Outcome (List ℕ)
name_of place l = and_then (argument place l) (λ us m. name_read place (name_in us) m)

-- How many arguments: a digit between brackets

-- this number of arguments, where its bracket is closed
abbrev pub number_closed : ℕ → ℕ → Bool × Units → Outcome ℕ
number_closed place n (true, l) = Read n l
number_closed place n (false, l) = Refused (refusal_at WrongParameters place)

-- the number of arguments from its digit on, if one was found
abbrev pub number_in : ℕ → Option ℕ × Units → Outcome ℕ
number_in place (Some n, l) = number_closed place n (sign (byte "]") l)
number_in place (None, l) = Refused (refusal_at WrongParameters place)

-- the number of arguments in brackets if one was opened, otherwise 0
abbrev pub number_opened : ℕ → Bool × Units → Outcome ℕ
number_opened place (true, l) = number_in place (digit l)
number_opened place (false, l) = Read 0 l

-- how many arguments a definition by `\newcommand` has
abbrev pub number_of : ℕ → Units → Outcome ℕ
number_of place l = number_opened place (sign (byte "[") l)

-- The text of the parameters: at most nine, given as `#1`, `#2` and so on, in this order, and signs, up to a brace. White space
-- is a sign as well.

-- whether a piece is the number of the parameter after n others
abbrev pub is_number : ℕ → Piece → Bool
is_number n piece = nat_lt n 9 && is_character (byte "1" + n) piece

-- whether a piece is a brace, which ends the text
abbrev pub is_brace : Piece → Bool
is_brace Open = true
is_brace Close = true
is_brace piece = false

-- a piece after n parameters, and after the `#` of another one or not
abbrev pub in_parameter_text : Bool → ℕ → ℕ → Unit → Units → (Bool → ℕ → Outcome (List Taken)) → Outcome (List Taken)
in_parameter_text true place n u l more =
    if is_number n u.piece then with_first Parameter (more false (suc n)) else Refused (refusal_at WrongParameters place)
in_parameter_text false place n u l more =
    if is_character (byte "#") u.piece then more true n
    else if is_brace u.piece then Read [] (Next u l)
    else with_first (Sign u.piece) (more false n)

-- the end of the units, which a number should precede after a `#`
abbrev pub number_due : Bool → ℕ → Units → Outcome (List Taken)
number_due true place l = Refused (refusal_at WrongParameters place)
number_due false place l = Read [] l

-- the rest of the text
abbrev pub parameters_behind : ℕ → Units → Bool → ℕ → Outcome (List Taken)
parameters_behind place (Next u l) behind n = in_parameter_text behind place n u l (parameters_behind place l)
parameters_behind place (End at) behind n = number_due behind place (End at)
parameters_behind place (Stop r) behind n = number_due behind place (Stop r)

-- the text of the parameters of a definition at this place
abbrev pub parameter_text : ℕ → Units → Outcome (List Taken)
parameter_text place l = parameters_behind place l false 0

-- how many parameters there are
abbrev pub parameter_count : List Taken → ℕ
parameter_count [] = 0
parameter_count (Parameter ∷ takes) = suc (parameter_count takes)
parameter_count (Sign sign ∷ takes) = parameter_count takes

-- The body

-- the argument with this number, counted from 1, of n arguments
abbrev pub argument_part : ℕ → Option ℕ → Option Part
argument_part n (Some zero) = None
argument_part n (Some (suc k)) = if nat_lt k n then Some (Argument k) else None
argument_part n None = None

-- what a piece after a number sign means: an argument, or a number sign
abbrev pub parameter_part : ℕ → Piece → Option Part
parameter_part n piece =
    if is_character (byte "#") piece then Some (Fixed piece) else argument_part n (digit_of piece)

-- this part before the others. If one of them is none, nothing.
abbrev pub part_before : Option Part → Option (List Part) → Option (List Part)
part_before (Some part) (Some parts) = Some (part ∷ parts)
part_before (Some part) None = None
part_before None parts = None

-- the parts that units are, the first of which may follow a number sign, where there are n arguments
abbrev pub parts_behind : Bool → ℕ → List Unit → Option (List Part)
parts_behind true n [] = None
parts_behind false n [] = Some []
parts_behind true n (u ∷ us) = part_before (parameter_part n u.piece) (parts_behind false n us)
parts_behind false n (u ∷ us) =
    if is_character (byte "#") u.piece then parts_behind true n us
    else part_before (Some (Fixed u.piece)) (parts_behind false n us)

-- the parts of a body in which each `#` means something, where there are n arguments
abbrev pub parts_of : ℕ → List Unit → Option (List Part)
parts_of = parts_behind false

-- this body, or the refusal of what is none
abbrev pub body_read : ℕ → Option (List Part) → Units → Outcome (List Part)
body_read place (Some parts) l = Read parts l
body_read place None l = Refused (refusal_at UnknownParameter place)

-- the body of a macro with n arguments
abbrev pub body : ℕ → ℕ → Units → Outcome (List Part)
body place n l = and_then (argument place l) (λ us m. body_read place (parts_of n us) m)

-- The default of the first argument, which is in brackets. It has no arguments itself.

-- this default, or the refusal of what is none
abbrev pub default_read : ℕ → Option (List Part) → Units → Outcome (Option (List Part))
default_read place (Some parts) l = Read (Some parts) l
default_read place None l = Refused (refusal_at UnknownParameter place)

-- the default that these units are, of the first of n arguments, if it is given
abbrev pub default_given : ℕ → ℕ → Option (List Unit) → Units → Outcome (Option (List Part))
default_given place n None l = Read None l
default_given place zero (Some us) l = Refused (refusal_at WrongParameters place)
default_given place (suc n) (Some us) l = default_read place (parts_of 0 us) l

-- the default of the first of n arguments, if one comes next
abbrev pub default_of : ℕ → ℕ → Units → Outcome (Option (List Part))
default_of place n l = and_then (optional l) (default_given place n)

-- what the name of an operator means; with a star it has limits
abbrev pub operator_parts : Bool → List Part → List Part
operator_parts star parts =
    Fixed (Command (codes "operatorname")) ∷ (starred star ++ Fixed Open ∷ (parts ++ Fixed Close ∷ []))
  where
    starred : Bool → List Part
    starred true = Fixed (Character (byte "*")) ∷ []
    starred false = []

-- a command with this name, and in braces a delimiter of the size that the first argument says
abbrev pub sized_parts : List ℕ → List Part → List Part
sized_parts name delimiter = Fixed (Command name) ∷ Fixed Open ∷ Argument 0 ∷ (delimiter ++ Fixed Close ∷ [])

-- what is between delimiters whose size the first argument says
abbrev pub enclosed_parts : List Part → List Part → List Part
enclosed_parts left right = sized_parts (codes "mathopen") left ++ Argument 1 ∷ sized_parts (codes "mathclose") right

-- what is between delimiters that are as high as it. As a whole, it has the space of an opening and of a closing delimiter.
abbrev pub stretched_parts : List Part → List Part → List Part
stretched_parts left right =
    Fixed (Command (codes "mathopen")) ∷ Fixed Open ∷ Fixed Close ∷ Fixed (Command (codes "mathclose")) ∷ Fixed Open
    ∷ Fixed (Command (codes "left")) ∷ (left ++ Argument 0 ∷ Fixed (Command (codes "right")) ∷ (right ++ Fixed Close ∷ []))

-- what the name of a pair of delimiters means: with a star they stretch, and without one they have the usual size, or the one
-- that is given in brackets
abbrev pub delimiters_macro : List Part → List Part → Macro
delimiters_macro left right = macro_of_parts (Some (stretched_parts left right)) (Some []) (parameters 1) (enclosed_parts left right)

-- the word that a piece is
abbrev pub word_of : Piece → Option Word
word_of (Command name) = word_named name
word_of piece = None

-- The definitions that follow their words

-- what follows `\newcommand` and the like: a star, which is ignored, a name, a number of arguments, a default, and a body
abbrev pub command_definition : ℕ → Units → Outcome Definition
command_definition place l =
    and_then (name_of place (sign (byte "*") l).1) (λ name m.
    and_then (number_of place m) (λ n k.
    and_then (default_of place n k) (λ default j.
    and_then (body place n j) (λ parts rest. Read (definition name (macro_with_default default n parts)) rest))))

-- what follows `\def`: a name, the text of its parameters, and a body, which is in braces since nothing else ends this text
abbrev pub plain_definition : ℕ → Units → Outcome Definition
plain_definition place l =
    and_then (name_of place l) (λ name m.
    and_then (parameter_text place m) (λ takes k.
    and_then (body place (parameter_count takes) k) (λ parts rest. Read (definition name (macro_taking takes parts)) rest)))

-- what follows `\DeclareMathOperator`: a star, which asks for limits, a name, and a body
abbrev pub operator_definition : ℕ → Units → Outcome Definition
operator_definition place l =
    and_then (name_of place (sign (byte "*") l).1) (λ name m.
    and_then (body place 0 m) (λ parts rest.
    Read (definition name (macro 0 (operator_parts (sign (byte "*") l).0 parts))) rest))

-- what follows `\DeclarePairedDelimiter`: a name, and both delimiters
abbrev pub delimiters_definition : ℕ → Units → Outcome Definition
delimiters_definition place l =
    and_then (name_of place l) (λ name m.
    and_then (body place 0 m) (λ left k.
    and_then (body place 0 k) (λ right rest. Read (definition name (delimiters_macro left right)) rest)))

-- the piece that comes next, whatever it is
abbrev pub any_piece : ℕ → Units → Outcome Piece
any_piece place (Next u l) = Read u.piece l
any_piece place (End at) = Refused (refusal_at MissingArgument place)
any_piece place (Stop r) = Refused r

-- what follows `\let`: a name, an equals sign, which can be left out, and the piece that has the name from now on
abbrev pub alias_definition : ℕ → Units → Outcome Definition
alias_definition place l =
    and_then (name_of place l) (λ name m.
    and_then (any_piece place (past_space (sign (byte "=") m).1)) (λ piece rest. Read (definition name (alias piece)) rest))

-- the definition after a word at this place
abbrev pub definition_of : Word → ℕ → Units → Outcome Definition
definition_of NewCommand place l = command_definition place l
definition_of ProvideCommand place l = command_definition place l
definition_of Def place l = plain_definition place l
definition_of DeclareOperator place l = operator_definition place l
definition_of DeclareDelimiters place l = delimiters_definition place l
definition_of Let place l = alias_definition place l

-- The macros that hold after a definition

-- the macros after `\providecommand`, by what the name meant before
abbrev pub provided : Definition → Option Macro → Table → Table
provided d (Some m) table = table
provided d None table = with_macro d.name d.stands_for table

-- what a name means that is another one for this piece: the macro that the piece uses now, if it uses one
abbrev pub meaning_now : Table → Piece → Macro
meaning_now table piece = unwrap_or (macro_of table piece) (alias piece)

-- this macro, with the meaning that its piece has now, if it is another name for one
abbrev pub resolved : Table → Macro → Option Piece → Macro
resolved table m (Some piece) = meaning_now table piece
resolved table m None = m

-- the table after a definition by this word
abbrev pub behind_definition : Word → Definition → Table → Table
behind_definition ProvideCommand d table = provided d (table d.name) table
behind_definition NewCommand d table = with_macro d.name d.stands_for table
behind_definition Def d table = with_macro d.name d.stands_for table
behind_definition DeclareOperator d table = with_macro d.name d.stands_for table
behind_definition DeclareDelimiters d table = with_macro d.name d.stands_for table
behind_definition Let d table = with_macro d.name (resolved table d.stands_for d.stands_for.alias) table
