-- Macros that a text of definitions defines, and which hold in a formula as a table of their own.
use Rattle.std.proofs.Common.{◌≡◌, ℕ, List, [], Option, Some, None, option_map, Ok, Err, ap, refl, ◌∙◌}
use Rattle.std.proofs.lemmas.List.{nil_from_length}
use Rattle.std.specs.BTreeMap as tree
use Rattle.latex2mathml_tex_grammar.specs.{Cutting.units_of, DefinitionTexts.AreRefused, DefinitionTexts.Defines, DefinitionTexts.no_more, Macros.Macro, Macros.SameMacros, Macros.Table, Refusal.refusal_at, Units.End, Units.at_end, UsualMacros.usual_macros}
use Rattle.latex2mathml_tex_grammar.proofs.OneList.{has_units}
use Rattle.latex2mathml_tex_units.specs.MacroTables.{defined_before, defined_by, defined_here, defined_in, macros_in, or_else, or_usual, table_of}
use Rattle.latex2mathml_tex_units.specs.{Taking.kind_of, Texts.ReadsTo}
use Rattle.latex2mathml_tex_units.specs.declared.{macros.scope.Scope.Scope, macros.table.Macros.Macros, unit.Fault.Fault}
use Rattle.latex2mathml_tex_units.specs.declared.macros.halt.Halt.TheVariants as halt

-- the empty text defines the usual macros
pub usual_defined : Defines [] usual_macros
usual_defined = record { units = End 0; end = 0; spelled = at_end refl refl; read = no_more refl }

-- if a text has defined nothing, the usual macros hold
pub usual_alone : (m : Macros) → tree.IsEmpty m.defined → SameMacros usual_macros (macros_in m)
usual_alone m e name = rw e refl

-- in an empty map no name is defined
pub none_defined : (m : Macros) (name : List ℕ) → tree.btree_map_len m.defined ≡ 0 → defined_by m name ≡ None
none_defined m name e = rw (nil_from_length m.defined.entries e) refl

none_here : (scope : Scope) (name : List ℕ) → tree.btree_map_len scope.inner ≡ 0 → defined_here scope name ≡ None
none_here scope name e = rw (nil_from_length scope.inner.entries e) refl

pub none_at_all : (scope : Scope) (name : List ℕ) → tree.btree_map_len scope.inner ≡ 0 → defined_before (option_map (λ o. o.now) scope.outer) name ≡ None → defined_in scope name ≡ None
none_at_all scope name e before = ap (λ found. or_else found (defined_before (option_map (λ o. o.now) scope.outer) name)) (none_here scope name e) ∙ before

or_nothing : (found : Option Macro) → or_else found None ≡ found
or_nothing (Some m) = refl
or_nothing None = refl

-- if nothing was defined before a text, what it defines is all
alone : (scope : Scope) → scope.outer ≡ None → SameMacros (table_of scope) (macros_in (record { defined = scope.inner }))
alone scope e name =
    ap (λ outer. or_usual (or_else (defined_here scope name) (defined_before (option_map (λ o. o.now) outer) name)) name) e ∙ ap (λ found. or_usual found name) (or_nothing (defined_here scope name))

pub text_defined : (text : List ℕ) (scope : Scope) → ReadsTo (Ok scope) (units_of 0 text) → (table : Table) × Defines text table × SameMacros table (macros_in (record { defined = scope.inner }))
text_defined text scope (table, place, read, same, outer) =
    (table, record { units = units_of 0 text; end = place; spelled = has_units 0 text; read = read }, λ name. same name ∙ alone scope outer name)

pub text_refused : (text : List ℕ) (fault : Fault) (place : ℕ) → ReadsTo (Err (halt.Refused fault place)) (units_of 0 text) → AreRefused text (refusal_at (kind_of fault) place)
text_refused text fault place read = record { units = units_of 0 text; spelled = has_units 0 text; refused = read }
