use Rattle.std.proofs.Common.{◌≡◌, ◌≤◌, ◌-◌, drop, length, map}
use Rattle.latex2mathml_tex_grammar.specs.Arguments.{closes_last}
use Rattle.latex2mathml_tex_units.specs.Taking.{unit_of}
use Rattle.latex2mathml_tex_units.proofs.macros.optional.closes_last.Given as goal

abbrev pub invariant-units : goal.invariant-units
invariant-units l = record {
  within : l.passed ≤ length l.units;
  depth : l.depth ≤ l.passed;
  same : closes_last (map unit_of (drop l.passed l.units)) l.depth ≡ closes_last (map unit_of l.units) 0;
}

abbrev pub decreases-units : goal.decreases-units
decreases-units l = length l.units - l.passed
