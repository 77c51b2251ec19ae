use Rattle.std.proofs.Common.{ap, option_map, ◌∙◌}
use Rattle.latex2mathml_tex_units.specs.MacroTables.{defined_before}
use Rattle.latex2mathml_tex_units.proofs.DefinedTables.{none_at_all}
use Rattle.latex2mathml_tex_units.proofs.macros.scope.Scope.is_empty.Goals as goal

pub returns-then-is_empty : goal.returns-then-is_empty
returns-then-is_empty c = λ empty name. none_at_all c.args.self.now name (c.is_empty.ensures.0 c.if-is_empty.true) (ap (λ outer. defined_before (option_map (λ o. o.now) outer) name) c.in-Some.is ∙ c.is_empty-then-is_empty.ensures empty name)

pub returns-in-None : goal.returns-in-None
returns-in-None c = λ empty name. none_at_all c.args.self.now name (c.is_empty-in-None.ensures.0 empty) (ap (λ outer. defined_before (option_map (λ o. o.now) outer) name) c.in-None.is)
