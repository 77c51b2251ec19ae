-- The units that a text expands to, and those of them that are left.
use Rattle.std.specs.Prelude.{◌≡◌, ℕ, List, Option, Some, None, Result, Ok, Err, ⊤}
use Rattle.latex2mathml_tex_grammar.specs.{Cutting.units_of, Operands.Due, Operands.none_due, Expanding.expansion, Expansion.most_units, Expansion.most_uses, Expansion.Turn, Expansion.Stays, Expansion.Turns, Expansion.Fails, Expansion.own_role, Expansion.turn, Expansion.turn_of, Macros.SameMacros, Macros.Table, Refusal.refusal_at}
use Rattle.latex2mathml_tex_grammar.specs.Units as units
use Rattle.latex2mathml_tex_units.specs.{Dues.due_of, Pending.pending_units, MacroTables.macros_in, MacroTables.table_of, Taking.kind_of, Taking.piece_of}
use Rattle.latex2mathml_tex_units.specs.declared.{macros.expander.Expander.Expander, macros.halt.Halt.Halt, macros.table.Macros.Macros, unit.Fault.Fault, unit.Piece.Piece}
use Rattle.latex2mathml_tex_units.specs.declared.macros.halt.Halt.TheVariants as halt

-- the units that a text expands to, in which these macros hold
abbrev pub expanded_text : Macros → List ℕ → units.Units
expanded_text macros text = expansion (macros_in macros) most_uses most_units none_due (units_of 0 text)

-- only the refusal, if there was one; otherwise these units
abbrev pub after_refusal : Option (Fault × ℕ) → units.Units → units.Units
after_refusal (Some refused) l = units.Stop (refusal_at (kind_of refused.0) refused.1)
after_refusal None l = l

-- what the units that are left expand to
abbrev pub still_expanded : Expander → units.Units
still_expanded e = expansion (table_of e.macros) e.uses e.room (due_of e.due) (pending_units e.pending)

abbrev pub expanded_left : Expander → units.Units
expanded_left e = after_refusal e.refused (still_expanded e)

-- what becomes of a command with this name that was taken at this place
abbrev pub turn_of_name : Expander → List ℕ → ℕ → Turn
turn_of_name e name place = turn (table_of e.macros) e.uses e.room (due_of e.due) (units.unit (units.Command name) place) (pending_units e.pending)

-- what becomes of this unit, whose name is another one for a piece, or which is that piece, if no macro has its name
abbrev pub own_turn : Expander → units.Piece → units.Unit → Turn
own_turn e piece u = turn_of (own_role piece) (table_of e.macros) e.uses e.room u (pending_units e.pending)

-- whatever operands are still to come, the units that are left expand to the same
abbrev pub ExpandAlike : Expander → Expander → Type 0
ExpandAlike old new = (d : Due) → expansion (table_of new.macros) new.uses new.room d (pending_units new.pending) ≡ expansion (table_of old.macros) old.uses old.room d (pending_units old.pending)

-- the result says what becomes of a unit in the turn from one state to another: as which piece it stays, if it stays
abbrev pub Turned : Result (Option Piece) Halt → Turn → Expander → Expander → Type 0
Turned (Ok None) turn old new = (next : Table) × (turn ≡ Turns next new.uses new.room (pending_units new.pending)) × SameMacros next (table_of new.macros)
Turned (Ok (Some piece)) turn old new = (turn ≡ Stays (piece_of piece)) × ExpandAlike old new
Turned (Err (halt.Refused fault place)) turn old new = turn ≡ Fails (refusal_at (kind_of fault) place)
Turned (Err halt.OutOfMemory) turn old new = ⊤

-- these units are the refusal alone
abbrev pub IsHalted : Halt → units.Units → Type 0
IsHalted (halt.Refused fault place) l = l ≡ units.Stop (refusal_at (kind_of fault) place)
IsHalted halt.OutOfMemory l = ⊤
