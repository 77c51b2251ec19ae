use Rattle.std.proofs.Common.{◌≡◌, ◌≤◌, ◌-◌, drop, length, map}
use Rattle.latex2mathml_tex_grammar.specs.Bars.{bar_follows}
use Rattle.latex2mathml_tex_units.specs.Taking.{unit_of}
use Rattle.latex2mathml_tex_units.proofs.macros.bars.bar_follows.Given as goal

abbrev pub invariant-units : goal.invariant-units
invariant-units l = record {
  within : l.passed ≤ length l.units;
  same : bar_follows (map unit_of (drop l.passed l.units)) ≡ bar_follows (map unit_of l.units);
}

abbrev pub decreases-units : goal.decreases-units
decreases-units l = length l.units - l.passed
