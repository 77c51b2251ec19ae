use Rattle.std.proofs.Common.{◌≡◌, ◌≤◌, ◌-◌, ◌++◌, drop, length, map}
use Rattle.latex2mathml_tex_grammar.specs.Bars.{split, split_from}
use Rattle.latex2mathml_tex_units.specs.{Bodies.bars_of, Dividing.spot_of, Pending.units_in, Taking.unit_of}
use Rattle.latex2mathml_tex_units.proofs.macros.bars.split.Given as goal

abbrev pub invariant-units : goal.invariant-units
invariant-units l = record {
  within : l.passed ≤ length l.units;
  depth : l.depth ≤ l.passed;
  done : split (bars_of l.bars) (map unit_of l.units) ≡ units_in l.done ++ split_from (bars_of l.bars) l.depth (spot_of l.spot) (map unit_of (drop l.passed l.units));
}

abbrev pub decreases-units : goal.decreases-units
decreases-units l = length l.units - l.passed
