use Rattle.std.proofs.Common.{◌≡◌, drop, map}
use Rattle.latex2mathml_tex_grammar.specs.Definitions.{are_space}
use Rattle.latex2mathml_tex_units.specs.Taking.{unit_of}
use Rattle.latex2mathml_tex_units.proofs.macros.definitions.are_space.Given as goal

abbrev pub invariant-loop-unit : goal.invariant-loop-unit
invariant-loop-unit l = are_space (map unit_of (drop l.unit-index l.units)) ≡ are_space (map unit_of l.units)
