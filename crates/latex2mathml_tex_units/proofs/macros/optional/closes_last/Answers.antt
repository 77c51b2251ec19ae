use Rattle.std.proofs.Common.{map}
use Rattle.latex2mathml_tex_grammar.specs.Arguments.{closes_last}
use Rattle.latex2mathml_tex_units.specs.Taking.{unit_of}
use Rattle.latex2mathml_tex_units.proofs.Optional.{closing_last}
use Rattle.latex2mathml_tex_units.proofs.macros.optional.closes_last.Goals as goal

pub returns-then-depth-eq0 : goal.returns-then-depth-eq0
returns-then-depth-eq0 c = closing_last c.args.units.now c.units.passed _ (closes_last (map unit_of c.args.units.now) 0) c.units.depth c.units.invariant.same c.units-test.true c.in-Close.is c.if-depth-eq0.true
