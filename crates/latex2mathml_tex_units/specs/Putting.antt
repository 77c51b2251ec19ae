-- Units that are put in place of macros.
use Rattle.std.specs.Prelude.{◌≡◌, ℕ, ◌+◌, ◌<◌, Bool, true, false, List, [], ◌∷◌, length, map, option_map, Option, Some, None, IfOk, Result, Ok, Err, ⊤}
use Rattle.latex2mathml_tex_grammar.specs.{Expansion.Turn, Expansion.Turns, Expansion.Fails, Macros.Table, Macros.before, Macros.put, Macros.put_part, Refusal.refusal_at}
use Rattle.latex2mathml_tex_grammar.specs.Units as units
use Rattle.latex2mathml_tex_units.specs.{Bodies.part_of, Pending.lists_in, Pending.pending_units, Taking.kind_of}
use Rattle.latex2mathml_tex_units.specs.declared.{macros.arguments.Arguments.Arguments, macros.halt.Halt.Halt, macros.part.Part.Part, macros.pending.Pending.Pending}
use Rattle.latex2mathml_tex_units.specs.declared.macros.halt.Halt.TheVariants as halt

-- whether the units were put before the others, with room for `room` units before and for `left` after
abbrev pub IsPut : Bool → List units.Unit → ℕ → ℕ → units.Units → units.Units → Type 0
IsPut true us room left old new = (room ≡ left + length us) × (new ≡ before us old)
IsPut false us room left old new = room < length us

-- these units were put before the others
abbrev pub ArePut : List units.Unit → Pending → Pending → Type 0
ArePut us old new = pending_units new ≡ before us (pending_units old)

-- the result says whether these units were put, with room for `room` units before and for `left` after
abbrev pub Puts : {E : Type 0} → Result Bool E → List units.Unit → ℕ → ℕ → Pending → Pending → Type 0
Puts result us room left old new = IfOk result (λ is_put. IsPut is_put us room left (pending_units old) (pending_units new))

-- the default at this place, if there is one, and these arguments
abbrev pub behind_default : Option (List Part) → ℕ → List (List units.Unit) → List (List units.Unit)
behind_default (Some default) place given = put [] place (map part_of default) ∷ given
behind_default None place given = given

-- all arguments of a macro that is used at this place
abbrev pub arguments_at : ℕ → Arguments → List (List units.Unit)
arguments_at place arguments = behind_default (option_map (λ d. d.now) arguments.default) place (lists_in arguments.given)

-- what a part of a body puts, with these arguments, at this place
abbrev pub part_units : Arguments → ℕ → Part → List units.Unit
part_units arguments place part = put_part (arguments_at place arguments) place (part_of part)

-- what a body puts, with these arguments, at this place
abbrev pub body_units : Arguments → ℕ → List Part → List units.Unit
body_units arguments place body = put (arguments_at place arguments) place (map part_of body)

-- the result says what becomes of the use of a macro: the units l, with `uses` more uses and room for `room` more units
abbrev pub Replaces : {A : Type 0} → Result A Halt → Turn → Table → ℕ → ℕ → units.Units → Type 0
Replaces (Ok done) turn table uses room l = turn ≡ Turns table uses room l
Replaces (Err (halt.Refused fault place)) turn table uses room l = turn ≡ Fails (refusal_at (kind_of fault) place)
Replaces (Err halt.OutOfMemory) turn table uses room l = ⊤
