-- Texts of definitions, as the code reads them.
use Rattle.std.specs.Prelude.{◌≡◌, ℕ, None, Result, Ok, Err, ⊤}
use Rattle.latex2mathml_tex_grammar.specs.{DefinitionTexts.ReadsDefinitions, Macros.SameMacros, Macros.Table, Reading.Read, Reading.Refused, Refusal.refusal_at, UsualMacros.usual_macros}
use Rattle.latex2mathml_tex_grammar.specs.Units as units
use Rattle.latex2mathml_tex_units.specs.{MacroTables.table_of, Taking.kind_of}
use Rattle.latex2mathml_tex_units.specs.declared.macros.{halt.Halt.Halt, scope.Scope.Scope}
use Rattle.latex2mathml_tex_units.specs.declared.macros.halt.Halt.TheVariants as halt

-- the result says what these units define, if the usual macros held before
abbrev pub ReadsTo : Result Scope Halt → units.Units → Type 0
ReadsTo (Ok scope) l = (table : Table) × (place : ℕ) × ReadsDefinitions usual_macros l (Read table (units.End place)) × SameMacros table (table_of scope) × (scope.outer ≡ None)
ReadsTo (Err (halt.Refused fault place)) l = ReadsDefinitions usual_macros l (Refused (refusal_at (kind_of fault) place))
ReadsTo (Err halt.OutOfMemory) l = ⊤
