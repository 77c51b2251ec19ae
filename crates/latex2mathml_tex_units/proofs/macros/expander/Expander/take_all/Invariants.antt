use Rattle.std.proofs.Common.{◌≡◌, map}
use Rattle.latex2mathml_tex_grammar.specs.Macros.{before, unit_count}
use Rattle.latex2mathml_tex_units.specs.{Expanded.expanded_left, Taking.unit_of}
use Rattle.latex2mathml_tex_units.proofs.macros.expander.Expander.take_all.Given as goal

abbrev pub invariant-units : goal.invariant-units
invariant-units l = before (map unit_of l.units.items) (expanded_left l.self) ≡ before (map unit_of l.fn.units.items) (expanded_left l.fn.self)

abbrev pub decreases-units : goal.decreases-units
decreases-units l = unit_count (expanded_left l.self)
