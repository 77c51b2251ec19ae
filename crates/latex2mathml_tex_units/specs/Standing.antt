-- Units that stay as they are when a text is expanded.
use Rattle.std.specs.Prelude.{◌≡◌, ℕ, Bool, List, ◌++◌, IsTrue, map}
use Rattle.latex2mathml_tex_grammar.specs.{Expanding.expansion, Macros.SameMacros, Macros.Table, Macros.before, Operands.Due, Operands.due_behind_units, UsualMacros.usual_macros}
use Rattle.latex2mathml_tex_grammar.specs.Units as units
use Rattle.latex2mathml_tex_units.specs.{Taking.unit_of, declared.unit.Unit.Unit}

-- where the flag is set, only the usual macros hold
abbrev pub IsUsual : Bool → Table → Type 0
IsUsual usual table = IsTrue usual → SameMacros table usual_macros

-- these units were taken from the units `old`, and `new` are left: however old is expanded, they are the first of its expansion
abbrev pub AreStanding : Bool → List units.Unit → units.Units → units.Units → Type 0
AreStanding usual taken old new =
    (table : Table) (uses room : ℕ) (d : Due) → IsUsual usual table → expansion table uses room d old ≡ before taken (expansion table uses room (due_behind_units taken d) new)

-- units of which this holds were appended to the list
abbrev pub Moves : List Unit → List Unit → (List units.Unit → Type 0) → Type 0
Moves old new P = (us : List Unit) × (new ≡ old ++ us) × P (map unit_of us)
