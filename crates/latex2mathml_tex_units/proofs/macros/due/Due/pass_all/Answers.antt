use Rattle.std.proofs.Common.{arith}
use Rattle.latex2mathml_tex_units.specs.Dues.{due_of}
use Rattle.latex2mathml_tex_units.proofs.Dues.{passed_on}
use Rattle.latex2mathml_tex_units.proofs.macros.due.Due.pass_all.Goals as goal

pub units-preserved : goal.units-preserved
units-preserved c = record {
  within = omega (arith, c.units-test.true);
  same = passed_on c.args.units.now c.units.passed _ (due_of c.units.self) (due_of c.pass.new.self) _ c.units-test.true c.units.invariant.same c.in_ok-pass.ensures;
}
