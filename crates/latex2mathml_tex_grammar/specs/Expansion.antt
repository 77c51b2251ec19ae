-- Expansion: what units become when the macros that they use are replaced and the definitions among them are taken. What is
-- refused ends the units, as does what is not a unit.
use Rattle.std.specs.Prelude.{◌≡◌, ℕ, zero, suc, ◌-◌, Bool, true, false, nat_lt, List, length, Option, Some, None, if◌then◌else◌}
use Rattle.std.specs.Str.{byte}
use Rattle.latex2mathml_tex_grammar.specs.Arguments.{macro_arguments}
use Rattle.latex2mathml_tex_grammar.specs.Definitions.{Word, word_of, Definition, sign, definition_of, behind_definition}
use Rattle.latex2mathml_tex_grammar.specs.Macros.{Part, Macro, macro_taking, macro_of, Table, put, before}
use Rattle.latex2mathml_tex_grammar.specs.Operands.{Due, due_behind, is_due, used_as}
use Rattle.latex2mathml_tex_grammar.specs.Reading.{Outcome, Read, Refused}
use Rattle.latex2mathml_tex_grammar.specs.Refusal.{TooManyExpansions, Refusal, refusal_at}
use Rattle.latex2mathml_tex_grammar.specs.Units.{Piece, Unit, unit, Units, Next, End, Stop}

-- how many macros a text can use, and how many units can be put in place of them, so that the expansion of each text ends
abbrev pub most_uses : ℕ
most_uses = 1000

-- how many units macros may put in all
abbrev pub most_units : ℕ
most_units = 100000

-- what a unit is to the macros that hold
pub data Role : Type 0 where
  -- the use of a macro
  Uses : Macro → Role
  -- the word of a definition
  Defines : Word → Role
  -- neither: it is this piece
  Stands : Piece → Role

-- the role of a piece that is this word of a definition, if it is one
abbrev pub word_role : Option Word → Piece → Role
word_role (Some word) piece = Defines word
word_role None piece = Stands piece

-- the role of a piece, whatever macros hold
abbrev pub own_role : Piece → Role
own_role piece = word_role (word_of piece) piece

-- the role of a piece that uses this macro: if its name is only another one, it is that of the piece that has the name
abbrev pub macro_role : Macro → Option Piece → Role
macro_role m (Some piece) = own_role piece
macro_role m None = Uses m

-- the role of a piece that uses this macro, if it uses one
abbrev pub found_role : Option Macro → Piece → Role
found_role (Some m) piece = macro_role m m.alias
found_role None piece = own_role piece

-- a macro may have the name of any command, and takes precedence
abbrev pub role_of : Table → Piece → Role
role_of table piece = found_role (macro_of table piece) piece

-- What becomes of a unit before others
pub data Turn : Type 0 where
  -- it stays, as this piece, and the units after it are expanded
  Stays : Piece → Turn
  -- these units are expanded in place of it and those after it, with these macros; the numbers say how many more macros can
  -- be used, and how many more units can be put
  Turns : Table → ℕ → ℕ → Units → Turn
  -- it is refused
  Fails : Refusal → Turn

-- these units take the place of the macro that is used here, if that many can be put
abbrev pub replaced : Table → ℕ → ℕ → Unit → List Unit → Units → Turn
replaced table uses room u us l =
    if nat_lt room (length us) then Fails (refusal_at TooManyExpansions u.place)
    else Turns table uses (room - length us) (before us l)

-- A macro that takes a star means something else with it. So what is used depends on the units after its name.

-- what is used, and the units after it: with this body, if a star was found
abbrev pub starred_form : Macro → List Part → Bool × Units → Macro × Units
starred_form m body (true, l) = (macro_taking m.takes body, l)
starred_form m body (false, l) = (m, l)

-- the same before these units, of a macro that has this body with a star, if it takes one
abbrev pub form_with : Macro → Option (List Part) → Units → Macro × Units
form_with m (Some body) l = starred_form m body (sign (byte "*") l)
form_with m None l = (m, l)

-- what is used before these units, and the units after it
abbrev pub form_of : Macro → Units → Macro × Units
form_of m l = form_with m m.starred l

-- what becomes of the use of a macro with this body, by the outcome of its arguments
abbrev pub with_arguments : Table → ℕ → ℕ → Unit → List Part → Outcome (List (List Unit)) → Turn
with_arguments table uses room u body (Read args l) = replaced table uses room u (put args u.place body) l
with_arguments table uses room u body (Refused r) = Fails r

-- what becomes of the use of a macro, by what is used
abbrev pub used_form : Table → ℕ → ℕ → Unit → Macro × Units → Turn
used_form table uses room u (m, l) = with_arguments table uses room u m.body (macro_arguments m u.place l)

-- what becomes of the use of a macro, which is refused if no more can be used
abbrev pub used : Table → ℕ → ℕ → Unit → Macro → Units → Turn
used table zero room u m l = Fails (refusal_at TooManyExpansions u.place)
used table (suc uses) room u m l = used_form table uses room u (form_of m l)

-- what becomes of the word of a definition, by the outcome of the definition that follows it
abbrev pub defined : Table → ℕ → ℕ → Word → Outcome Definition → Turn
defined table uses room word (Read d l) = Turns (behind_definition word d table) uses room l
defined table uses room word (Refused r) = Fails r

-- what becomes of a unit that has this role
abbrev pub turn_of : Role → Table → ℕ → ℕ → Unit → Units → Turn
turn_of (Uses m) table uses room u l = used table uses room u m l
turn_of (Defines word) table uses room u l = defined table uses room word (definition_of word u.place l)
turn_of (Stands piece) table uses room u l = Stays piece

-- the role of a unit, where a macro is taken whole if the flag is set
abbrev pub role_as : Bool → Role → Role
role_as whole (Uses m) = Uses (used_as whole m)
role_as whole (Defines word) = Defines word
role_as whole (Stands piece) = Stands piece

-- what becomes of a unit before these units, where these macros hold and these operands are still to come
abbrev pub turn : Table → ℕ → ℕ → Due → Unit → Units → Turn
turn table uses room d u l = turn_of (role_as (is_due d) (role_of table u.piece)) table uses room u l

-- what units expand to where these macros hold; the numbers say how many macros can be used, and how many units can be put.
-- The operands that are still to come say which macros are taken whole.
pub data Expands : Table → ℕ → ℕ → Due → Units → Units → Type 0 where
  at_end : {table : Table} {uses room place : ℕ} {d : Due} → Expands table uses room d (End place) (End place)
  at_stop : {table : Table} {uses room : ℕ} {d : Due} {r : Refusal} → Expands table uses room d (Stop r) (Stop r)
  stays : {table : Table} {uses room : ℕ} {d : Due} {u : Unit} {piece : Piece} {l m : Units}
      → turn table uses room d u l ≡ Stays piece
      → Expands table uses room (due_behind piece d) l m
      → Expands table uses room d (Next u l) (Next (unit piece u.place) m)
  turns : {table next : Table} {uses room uses_left room_left : ℕ} {d : Due} {u : Unit} {l m n : Units}
      → turn table uses room d u l ≡ Turns next uses_left room_left n
      → Expands next uses_left room_left d n m
      → Expands table uses room d (Next u l) m
  fails : {table : Table} {uses room : ℕ} {d : Due} {u : Unit} {l : Units} {r : Refusal}
      → turn table uses room d u l ≡ Fails r
      → Expands table uses room d (Next u l) (Stop r)
