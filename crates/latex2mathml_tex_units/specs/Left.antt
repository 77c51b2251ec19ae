-- The units that are left.
use Rattle.std.specs.Prelude.{◌≡◌, ℕ, ◌+◌, List, [], ◌∷◌, Option, Some, None, drop, map}
use Rattle.std.specs.Str.{chars}
use Rattle.latex2mathml_tex_grammar.specs.{Cutting.units_of, Macros.before, Next.digits_next, Next.next_are, Refusal.refusal_at, Rules.a_character, Rules.a_digit, Units.Units}
pub use Rattle.latex2mathml_tex_grammar.specs.Macros.{unit_count}
use Rattle.latex2mathml_tex_grammar.specs.Units as units
use Rattle.latex2mathml_tex_units.specs.Taking.{kind_of, unit_of}
use Rattle.latex2mathml_tex_units.specs.declared.{input.Input.Input, macros.whole.End.End, lexer.Lexer.Lexer, unit.Next.Next}
use Rattle.latex2mathml_tex_units.specs.declared.macros.whole.End.TheVariants as end
use Rattle.latex2mathml_tex_units.specs.declared.unit.Next.TheVariants as next

-- the units that a lexer has left
abbrev pub units_left : Lexer → Units
units_left r = units_of r.place (chars r.rest.now)

-- what is next, followed by these units
abbrev pub put_back : Next → Units → Units
put_back (next.Unit u) l = units.Next (unit_of u) l
put_back (next.End place) l = units.End place
put_back (next.Fault fault place) l = units.Stop (refusal_at (kind_of fault) place)

-- how units end
abbrev pub units_end : End → Units
units_end (end.Text place) = units.End place
units_end (end.Fault fault place) = units.Stop (refusal_at (kind_of fault) place)

-- the units that an input has left
abbrev pub units_at : Input → Units
units_at i = before (map unit_of (drop i.taken i.units.items)) (units_end i.end)

-- the units that are left after the next one, if there is one
abbrev pub units_behind : Input → Units
units_behind i = before (map unit_of (drop (i.taken + 1) i.units.items)) (units_end i.end)

-- the inputs are of the same units, of which another number may have been taken
abbrev pub SameUnits : Input → Input → Type 0
SameUnits old new = (new.units ≡ old.units) × (new.end ≡ old.end)

-- units that pass these tests came next and were taken: this is their text
abbrev pub TakesNext : List (units.Piece → Option (List ℕ)) → List ℕ → Input → Input → Type 0
TakesNext tests text old new = next_are tests (units_at old) ≡ Some (text, units_at new)

-- no such units come next, and none is taken
abbrev pub TakesNone : List (units.Piece → Option (List ℕ)) → Input → Input → Type 0
TakesNone tests old new = (next_are tests (units_at old) ≡ None) × (units_at new ≡ units_at old)

-- this character came next, by itself or in braces, and was taken
pub data TakesLone (c : ℕ) : Units → Units → Type 0 where
  by_itself : {u : units.Unit} {l : Units} → u.piece ≡ units.Character c → TakesLone c (units.Next u l) l
  in_braces : {u v w : units.Unit} {l : Units} → u.piece ≡ units.Open → v.piece ≡ units.Character c → w.piece ≡ units.Close → TakesLone c (units.Next u (units.Next v (units.Next w l))) l

-- neither a digit comes next, nor a point and a digit, nor white space before them
abbrev pub EndsNumber : Units → Type 0
EndsNumber l = (digits_next l ≡ ([], l)) × (next_are (a_character 46 ∷ a_digit ∷ []) l ≡ None)
