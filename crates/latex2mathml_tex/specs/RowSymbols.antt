-- Atoms that are one symbol or number, in a row.
use Rattle.std.specs.Prelude.{◌≡◌, ℕ, ◌+◌, Bool, true, false, List, Some}
use Rattle.latex2mathml_tex_grammar.specs.{Commands.meaning_of, Makes.takes_limits, Meaning.Meaning, Units.Command, Units.Next}
use Rattle.latex2mathml_tex_commands.specs.Meanings
use Rattle.latex2mathml_tex_units.specs.{Left.units_behind, Taking.piece_of, Taking.unit_of}
use Rattle.latex2mathml_tex_units.specs.declared.unit.{Piece.Piece, Unit.Unit}
use Rattle.latex2mathml_tex_atoms.specs.Models.{kind_of}
use Rattle.latex2mathml_tex_atoms.specs.declared.atoms.{Core.Core, Scripts.Scripts}
use Rattle.latex2mathml_tex_atoms.specs.declared.heights.Height.TheVariants as height
use Rattle.latex2mathml_tex.specs.Frames.{Start}
use Rattle.latex2mathml_tex.specs.Steps.{Follows, Holds, left_of, to_do}
use Rattle.latex2mathml_tex.specs.declared.parse.{Parser.Parser, State.State}
use Rattle.latex2mathml_tex.specs.declared.parse.State.TheVariants as state
use Rattle.latex2mathml_tex.specs.declared.parse.plain.InRow.{InRow}
use Rattle.latex2mathml_tex.specs.declared.parse.plain.InRow.TheVariants as in_row

-- the scripts of an atom that has none yet
abbrev pub lone_scripts : Core → Scripts
lone_scripts core = record { primes = 0; below = false; above = false; is_exchanged = false; limits = core.limits; takes_limits = takes_limits (kind_of core.kind); height = height.Low }

-- a unit comes next that is this piece
abbrev pub IsNext : Piece → Parser → Type 0
IsNext piece p = (u : Unit) × (left_of p ≡ Next (unit_of u) (units_behind p.input)) × (u.piece ≡ piece)

-- a command of this meaning comes next
pub record IsCommandNext (meaning : Meaning) (p : Parser) : Type 0 where
  pub unit : Unit
  pub name : List ℕ
  pub next : left_of p ≡ Next (unit_of unit) (units_behind p.input)
  pub is : piece_of unit.piece ≡ Command name
  pub means : meaning_of name ≡ Some meaning

-- An atom was read in the innermost row. Scripts may follow.
pub record ReadSymbol (core : Core) (old new : Parser) : Type 0 where
  pub holds : (s : Start) → Holds s old state.Next → Holds s new (state.Atom core (lone_scripts core))
  pub step : Follows (to_do old + 1) new (state.Atom core (lone_scripts core))

-- the state that is due where an atom without scripts was added to its row, and where it was not
abbrev pub added_state : Bool → Core → State
added_state true core = state.Next
added_state false core = state.Atom core (lone_scripts core)

-- what comes next in the innermost row: a symbol that was read, a command of this meaning, or anything else
abbrev pub IsInRow : InRow → Parser → Parser → Type 0
IsInRow (in_row.Symbol core) old new = ReadSymbol core old new
IsInRow (in_row.Command meaning) old new = (new ≡ old) × IsCommandNext (Meanings.meaning_of meaning.now) old
IsInRow in_row.Other old new = new ≡ old
