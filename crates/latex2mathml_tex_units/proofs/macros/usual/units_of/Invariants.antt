use Rattle.std.proofs.Common.{◌≡◌, ◌++◌, map}
use Rattle.std.specs.Str.{chars}
use Rattle.latex2mathml_tex_grammar.specs.{Cutting.units_of, Macros.unit_count, UsualMacros.listed}
use Rattle.latex2mathml_tex_units.specs.{Left.units_left, Taking.unit_of}
use Rattle.latex2mathml_tex_units.proofs.macros.usual.units_of.Given as goal

abbrev pub invariant-units : goal.invariant-units
invariant-units l = listed (units_of 0 (chars l.fn.text)) ≡ map unit_of l.units.items ++ listed (units_left l.lexer)

abbrev pub decreases-units : goal.decreases-units
decreases-units l = unit_count (units_left l.lexer)
