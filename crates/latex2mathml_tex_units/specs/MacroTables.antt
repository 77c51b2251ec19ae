-- The macros that hold, as tables of the grammar.
use Rattle.std.specs.Prelude.{ℕ, List, Option, Some, None, option_map}
use Rattle.std.specs.BTreeMap as tree
use Rattle.std.specs.Arc.{arc_value}
use Rattle.std.specs.{Cmp.Lexicographic.slice_cmp, Ordering.nat_cmp}
use Rattle.latex2mathml_tex_grammar.specs.{DefinitionTexts.Defines, Macros.Macro, Macros.SameMacros, Macros.Table, UsualMacros.usual_macros}
use Rattle.latex2mathml_tex_units.specs.{Bodies.macro_of, declared.macros.scope.Scope.Scope, declared.macros.table.Macros.Macros}

-- the first of two, if there is one, or else the other
abbrev pub or_else : Option Macro → Option Macro → Option Macro
or_else (Some m) other = Some m
or_else None other = other

-- a usual macro holds if no macro with its name was defined
abbrev pub or_usual : Option Macro → List ℕ → Option Macro
or_usual found name = or_else found (usual_macros name)

-- what a text of definitions defined
abbrev pub defined_by : Macros → Table
defined_by m name = option_map (λ shared. macro_of (arc_value shared)) (tree.get_by (λ k. slice_cmp nat_cmp name k.now) m.defined)

abbrev pub macros_in : Macros → Table
macros_in m name = or_usual (defined_by m name) name

-- this holds of each table in which each name means what it means among these macros
abbrev pub Holding : Macros → (Table → Type 0) → Type 0
Holding m P = (table : Table) → SameMacros table (macros_in m) → P table

-- some text defines these macros
abbrev pub AreDefined : Macros → Type 0
AreDefined m = (definitions : List ℕ) × (table : Table) × Defines definitions table × SameMacros table (macros_in m)

-- In a text: what the text itself defined comes first, and then what was defined before it

abbrev pub defined_before : Option Macros → Table
defined_before (Some outer) name = defined_by outer name
defined_before None name = None

abbrev pub defined_here : Scope → Table
defined_here s name = option_map (λ shared. macro_of (arc_value shared)) (tree.get_by (λ k. slice_cmp nat_cmp name k.now) s.inner)

abbrev pub defined_in : Scope → Table
defined_in s name = or_else (defined_here s name) (defined_before (option_map (λ outer. outer.now) s.outer) name)

abbrev pub table_of : Scope → Table
table_of s name = or_usual (defined_in s name) name
