-- The units that are still to be expanded, and what is taken of them.
use Rattle.std.specs.Prelude.{◌≡◌, List, [], ◌∷◌, map, Option, Some, None, Result, Ok, Err, Vec, ⊤}
use Rattle.std.specs.Global.{Global}
use Rattle.latex2mathml_tex_grammar.specs.{Reading.Outcome, Reading.Read, Reading.Refused, Refusal.refusal_at}
use Rattle.latex2mathml_tex_grammar.specs.Units as units
use Rattle.latex2mathml_tex_units.specs.{Left.units_left, Taking.kind_of, Taking.unit_of}
use Rattle.latex2mathml_tex_units.specs.declared.{macros.halt.Halt.Halt, macros.pending.Pending.Pending, unit.Unit.Unit}
use Rattle.latex2mathml_tex_units.specs.declared.macros.halt.Halt.TheVariants as halt

-- the units that were put, the next one last, followed by those of a text
abbrev pub put_before : List Unit → units.Units → units.Units
put_before [] l = l
put_before (u ∷ us) l = put_before us (units.Next (unit_of u) l)

abbrev pub pending_units : Pending → units.Units
pending_units p = put_before p.put.items (units_left p.lexer)

-- the next piece, if there is one
abbrev pub next_piece : units.Units → Option units.Piece
next_piece (units.Next u l) = Some u.piece
next_piece l = None

-- the units of a list
abbrev pub units_in : Vec Unit Global → List units.Unit
units_in v = map unit_of v.items

-- the units of several lists
abbrev pub lists_in : Vec (Vec Unit Global) Global → List (List units.Unit)
lists_in v = map units_in v.items

-- this outcome is what the result says, and these units are left; if memory runs out, nothing is said
abbrev pub Comes : {A B : Type 0} → Result A Halt → (A → B) → Outcome B → units.Units → Type 0
Comes (Ok x) value o l = o ≡ Read (value x) l
Comes (Err (halt.Refused fault place)) value o l = o ≡ Refused (refusal_at (kind_of fault) place)
Comes (Err halt.OutOfMemory) value o l = ⊤

-- the result is the outcome of the units that were left, and the new units are left now
abbrev pub Reads : {A B : Type 0} → Result A Halt → (A → B) → (units.Units → Outcome B) → Pending → Pending → Type 0
Reads result value outcome old new = Comes result value (outcome (pending_units old)) (pending_units new)
