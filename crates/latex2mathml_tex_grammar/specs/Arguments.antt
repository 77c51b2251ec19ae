-- Arguments: what a macro or a definition takes from the units that come next.
use Rattle.std.specs.Prelude.{ℕ, zero, suc, ◌-◌, Bool, true, false, ◌&&◌, List, [], ◌∷◌, length, take, drop, Option, Some, None, if◌then◌else◌, ⊤}
use Rattle.std.specs.Str.{byte}
pub use Rattle.latex2mathml_tex_grammar.specs.Pieces.{Brace, Opening, Closing, NoBrace, brace_of, is_character, is_command}
use Rattle.latex2mathml_tex_grammar.specs.Macros.{Part, Taken, Parameter, Sign, Macro, put}
use Rattle.latex2mathml_tex_grammar.specs.{Next.is_space_piece, Next.past_space, Reading.Outcome, Reading.Read, Reading.Refused}
use Rattle.latex2mathml_tex_grammar.specs.Refusal.{MissingArgument, UnclosedBrace, UnclosedBracket, WrongUse, Refusal, refusal_at}
use Rattle.latex2mathml_tex_grammar.specs.Units.{Piece, Space, Command, Character, Unit, Units, Next, End, Stop}

-- what is read first, then what is made of it and of the units after it
abbrev pub and_then : {A B : Type 0} → Outcome A → (A → Units → Outcome B) → Outcome B
and_then (Read x l) more = more x l
and_then (Refused r) more = Refused r

-- this one, before the others that are read
abbrev pub with_first : {A : Type 0} → A → Outcome (List A) → Outcome (List A)
with_first x (Read xs l) = Read (x ∷ xs) l
with_first x (Refused r) = Refused r

-- a brace or another piece in a group: a brace opens a group within it, or closes the innermost one
abbrev pub in_group : Brace → Unit → Units → ℕ → (ℕ → Outcome (List Unit)) → Outcome (List Unit)
in_group Opening u l depth more = with_first u (more (suc depth))
in_group Closing u l zero more = Read [] l
in_group Closing u l (suc depth) more = with_first u (more depth)
in_group NoBrace u l depth more = with_first u (more depth)

-- the units up to the brace that closes the group which begins at this place, where this many groups are open within it.
-- The braces of the group are not among its units.
abbrev pub group : ℕ → Units → ℕ → Outcome (List Unit)
group place (Next u l) depth = in_group (brace_of u.piece) u l depth (group place l)
group place (End at) depth = Refused (refusal_at UnclosedBrace place)
group place (Stop r) depth = Refused r

-- an argument of what is at this place: one unit, or those of a group
abbrev pub argument_of : Brace → ℕ → Unit → Units → Outcome (List Unit)
argument_of Opening place u l = group u.place l 0
argument_of Closing place u l = Refused (refusal_at MissingArgument place)
argument_of NoBrace place u l = Read (u ∷ []) l

-- the argument that comes next, of the macro at this place, and what is left. Spaces were passed.
abbrev pub argument_here : ℕ → Units → Outcome (List Unit)
argument_here place (Next u l) = argument_of (brace_of u.piece) place u l
argument_here place (End at) = Refused (refusal_at MissingArgument place)
argument_here place (Stop r) = Refused r

-- an argument of what is at this place; white space before the argument is ignored
abbrev pub argument : ℕ → Units → Outcome (List Unit)
argument place l = argument_here place (past_space l)

-- What ends before a sign

-- whether a unit is this sign, which is a command, a character or white space
abbrev pub is_sign : Piece → Piece → Bool
is_sign (Command name) piece = is_command name piece
is_sign (Character c) piece = is_character c piece
is_sign Space piece = is_space_piece piece
is_sign sign piece = false

-- whether a unit is this sign, and is in no group, where this many groups are open
abbrev pub is_end : Piece → ℕ → Piece → Bool
is_end sign zero piece = is_sign sign piece
is_end sign (suc depth) piece = false

-- a brace or another piece before the sign, with the refusal if a brace closes no group
abbrev pub before_sign : Brace → Piece → Refusal → Unit → Units → ℕ → (ℕ → Outcome (List Unit)) → Outcome (List Unit)
before_sign Opening sign r u l depth more = with_first u (more (suc depth))
before_sign Closing sign r u l zero more = Refused r
before_sign Closing sign r u l (suc depth) more = with_first u (more depth)
before_sign NoBrace sign r u l depth more = if is_end sign depth u.piece then Read [] (Next u l) else with_first u (more depth)

-- the units before this sign, where this many groups are open, or the refusal if it does not come
abbrev pub up_to : Piece → Refusal → Units → ℕ → Outcome (List Unit)
up_to sign r (Next u l) depth = before_sign (brace_of u.piece) sign r u l depth (up_to sign r l)
up_to sign r (End place) depth = Refused r
up_to sign r (Stop q) depth = Refused q

-- whether the units after a brace are the rest of a group, where this many groups are open within it: only the last one
-- closes the group
abbrev pub closes_last : List Unit → ℕ → Bool
closes_last [] depth = false
closes_last (u ∷ us) depth = closed_by (brace_of u.piece) us depth (closes_last us)
  where
    closed_by : Brace → List Unit → ℕ → (ℕ → Bool) → Bool
    closed_by Opening us depth more = more (suc depth)
    closed_by Closing [] zero more = true
    closed_by Closing (u ∷ us) zero more = false
    closed_by Closing us (suc depth) more = more depth
    closed_by NoBrace us depth more = more depth

-- whether the units are one group in braces
abbrev pub is_group : List Unit → Bool
is_group [] = false
is_group (u ∷ us) = is_opening (brace_of u.piece) && closes_last us 0
  where
    is_opening : Brace → Bool
    is_opening Opening = true
    is_opening brace = false

-- the units without the braces of the group that they are, if they are one: all but the first and the last
abbrev pub without_braces : List Unit → List Unit
without_braces us = if is_group us then take (length us - 2) (drop 1 us) else us

-- the units behind the first one
abbrev pub behind_first : Units → Units
behind_first (Next u l) = l
behind_first (End place) = End place
behind_first (Stop r) = Stop r

-- An argument in brackets, which can be left out

-- the place of the bracket that is the very next unit, if it is one, and the units after it
abbrev pub bracket_here : Units → Option ℕ × Units
bracket_here (Next u l) = if is_character (byte "[") u.piece then (Some u.place, l) else (None, Next u l)
bracket_here (End place) = (None, End place)
bracket_here (Stop r) = (None, Stop r)

-- the same of the unit that comes next; white space before it is ignored
abbrev pub bracket : Units → Option ℕ × Units
bracket l = bracket_here (past_space l)

-- the argument between brackets, the first of which is at this place
abbrev pub between_brackets : ℕ → Units → Outcome (List Unit)
between_brackets place l =
    and_then (up_to (Character (byte "]")) (refusal_at UnclosedBracket place) l 0) (λ us m. Read (without_braces us) (behind_first m))

-- the argument after the bracket, if there was one
abbrev pub behind_bracket : Option ℕ × Units → Outcome (Option (List Unit))
behind_bracket (Some place, l) = and_then (between_brackets place l) (λ us m. Read (Some us) m)
behind_bracket (None, l) = Read None l

-- the argument in brackets, if one comes next
abbrev pub optional : Units → Outcome (Option (List Unit))
optional l = behind_bracket (bracket l)

-- The other arguments, and signs between them

-- the sign that comes first in what a macro takes, if one does
abbrev pub first_sign : List Taken → Option Piece
first_sign [] = None
first_sign (Parameter ∷ takes) = None
first_sign (Sign sign ∷ takes) = Some sign

-- the argument of the macro at this place that ends before this sign, if there is one, or else its next argument
abbrev pub argument_before : Option Piece → ℕ → Units → Outcome (List Unit)
argument_before (Some sign) place l = and_then (up_to sign (refusal_at WrongUse place) l 0) (λ us m. Read (without_braces us) m)
argument_before None place l = argument place l

-- the sign of the macro at this place, which must come next
abbrev pub the_sign : Piece → ℕ → Units → Outcome ⊤
the_sign sign place (Next u l) = if is_sign sign u.piece then Read tt l else Refused (refusal_at WrongUse place)
the_sign sign place (End at) = Refused (refusal_at WrongUse place)
the_sign sign place (Stop r) = Refused r

-- the arguments of the macro at this place that takes this
abbrev pub arguments : ℕ → List Taken → Units → Outcome (List (List Unit))
arguments place [] l = Read [] l
arguments place (Parameter ∷ takes) l =
    and_then (argument_before (first_sign takes) place l) (λ arg rest. with_first arg (arguments place takes rest))
arguments place (Sign sign ∷ takes) l = and_then (the_sign sign place l) (λ found rest. arguments place takes rest)

-- what is given for an argument, or else its default at the place of the macro
abbrev pub or_default : ℕ → List Part → Option (List Unit) → List Unit
or_default place default (Some us) = us
or_default place default None = put [] place default

-- the argument that has a default, if one has, and the others
abbrev pub arguments_with : Option (List Part) → ℕ → List Taken → Units → Outcome (List (List Unit))
arguments_with None place takes l = arguments place takes l
arguments_with (Some default) place takes l =
    and_then (optional l) (λ given m. with_first (or_default place default given) (arguments place takes m))

-- the arguments of a macro at this place
abbrev pub macro_arguments : Macro → ℕ → Units → Outcome (List (List Unit))
macro_arguments m place l = arguments_with m.default place m.takes l
