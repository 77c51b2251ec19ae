use Rattle.std.proofs.Common.{◌≡◌, ◌≤◌, ◌-◌, drop, length, map}
use Rattle.latex2mathml_tex_grammar.specs.Arguments.{arguments}
use Rattle.latex2mathml_tex_units.specs.{Bodies.taken_of, Pending.pending_units, Pending.units_in}
use Rattle.latex2mathml_tex_units.proofs.Grouping.{with_all}
use Rattle.latex2mathml_tex_units.proofs.macros.pending.Pending.take_mixed.Given as goal

abbrev pub invariant-takes : goal.invariant-takes
invariant-takes l = record {
  within : l.passed ≤ length l.takes;
  same : arguments l.place (map taken_of l.takes) (pending_units l.fn.self) ≡ with_all (map units_in l.found.items) (arguments l.place (map taken_of (drop l.passed l.takes)) (pending_units l.self));
}

abbrev pub decreases-takes : goal.decreases-takes
decreases-takes l = length l.takes - l.passed
