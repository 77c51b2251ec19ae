use Rattle.std.proofs.Common.{◌≡◌, ◌+◌, ◌-◌, ◌<◌, length, arith}
use Rattle.latex2mathml_tex_units.specs.Left.{units_left}
use Rattle.latex2mathml_tex_units.specs.Pending.{pending_units}
use Rattle.latex2mathml_tex_units.proofs.PuttingBodies.{one_put}
use Rattle.latex2mathml_tex_units.proofs.macros.pending.Pending.put_all.Goals as goal

pub units-preserved : goal.units-preserved
units-preserved c =
    let next : c.units.left ≡ c.units.left - 1 + 1 = omega (arith, c.units-test.true) in
    let within : c.units.left - 1 < length c.args.units.now = omega (arith, next, c.units.invariant.within) in
    record {
      within = omega (arith, within);
      put = one_put c.args.units.now (c.units.left - 1) c.units.left _ c.units.self.put.items c.push.new.self.items (units_left c.units.self.lexer) (pending_units c.args.self.now) c.units.invariant.put next within c.in_ok-push.ensures.items;
    }
