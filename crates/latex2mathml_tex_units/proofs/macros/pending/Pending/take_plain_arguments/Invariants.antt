use Rattle.std.proofs.Common.{◌≡◌, map}
use Rattle.latex2mathml_tex_grammar.specs.{Arguments.arguments, Macros.parameters}
use Rattle.latex2mathml_tex_units.specs.Pending.{pending_units, units_in}
use Rattle.latex2mathml_tex_units.proofs.Grouping.{with_all}
use Rattle.latex2mathml_tex_units.proofs.macros.pending.Pending.take_plain_arguments.Given as goal

abbrev pub invariant-all : goal.invariant-all
invariant-all l = arguments l.place (parameters l.fn.count) (pending_units l.fn.self) ≡ with_all (map units_in l.found.items) (arguments l.place (parameters l.left) (pending_units l.self))

abbrev pub decreases-all : goal.decreases-all
decreases-all l = l.left
