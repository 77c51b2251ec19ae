use Rattle.std.proofs.Common.{◌≡◌, suc, ap, arith}
use Rattle.latex2mathml_tex_units.specs.Left.{unit_count, units_at, units_behind}
use Rattle.latex2mathml_tex_units.proofs.Separators.{no_more_left}
use Rattle.latex2mathml_tex_units.proofs.input.Input.find_separator.Goals as goal

pub depth_behind-depth-requires : goal.depth_behind-depth-requires
depth_behind-depth-requires c =
    let i = c.units.self in
    let one : unit_count (units_at i) ≡ suc (unit_count (units_behind i)) = ap unit_count (rw c.in-Unit.is at c.peek.ensures) in
    omega (arith, c.units.invariant.fits, one, no_more_left c.args.self.now, c.as_slice.ensures.len)
