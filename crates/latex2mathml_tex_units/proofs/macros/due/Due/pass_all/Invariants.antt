use Rattle.std.proofs.Common.{◌≡◌, ◌-◌, ◌≤◌, drop, length, map}
use Rattle.latex2mathml_tex_grammar.specs.Operands.{due_behind_units}
use Rattle.latex2mathml_tex_units.specs.{Dues.due_of, Taking.unit_of}
use Rattle.latex2mathml_tex_units.proofs.macros.due.Due.pass_all.Given as goal

abbrev pub invariant-units : goal.invariant-units
invariant-units l = record {
  within : l.passed ≤ length l.units;
  same : due_behind_units (map unit_of (drop l.passed l.units)) (due_of l.self) ≡ due_behind_units (map unit_of l.units) (due_of l.fn.self);
}

abbrev pub decreases-units : goal.decreases-units
decreases-units l = length l.units - l.passed
