use Rattle.std.proofs.Common.{◌≡◌, drop, map}
use Rattle.latex2mathml_tex_grammar.specs.Definitions.{parts_behind, parts_of}
use Rattle.latex2mathml_tex_units.specs.{Bodies.parts_in, Taking.unit_of}
use Rattle.latex2mathml_tex_units.proofs.Bodies.{with_parts}
use Rattle.latex2mathml_tex_units.proofs.macros.part.parts_of.Given as goal

abbrev pub invariant-loop-unit : goal.invariant-loop-unit
invariant-loop-unit l = parts_of l.arity (map unit_of l.units) ≡ with_parts (parts_in l.parts) (parts_behind l.behind_sign l.arity (map unit_of (drop l.unit-index l.units)))
