use Rattle.latex2mathml_tex_grammar.specs.{Cutting.units_of, Macros.unit_count}
use Rattle.std.specs.Str.{chars}
use Rattle.latex2mathml_tex_units.specs.Pending.{pending_units}
use Rattle.latex2mathml_tex_units.proofs.DefinitionTexts.{Leads}
use Rattle.latex2mathml_tex_units.proofs.macros.scope.Scope.read.Given as goal

abbrev pub invariant-definitions : goal.invariant-definitions
invariant-definitions l = Leads (units_of 0 (chars l.fn.text)) l.scope (pending_units l.pending)

abbrev pub decreases-definitions : goal.decreases-definitions
decreases-definitions l = unit_count (pending_units l.pending)
