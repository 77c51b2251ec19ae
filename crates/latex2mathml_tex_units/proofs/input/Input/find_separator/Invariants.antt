-- The units that are left have a separator where all have one, and each open group or table has a unit that was skipped.
use Rattle.std.proofs.Common.{◌≡◌, ◌≤◌, ◌+◌}
use Rattle.latex2mathml_tex_grammar.specs.Separators.{has_separator}
use Rattle.latex2mathml_tex_units.specs.Left.{SameUnits, unit_count, units_at}
use Rattle.latex2mathml_tex_units.proofs.input.Input.find_separator.Given as goal

abbrev pub invariant-units : goal.invariant-units
invariant-units l = record {
  answer : has_separator l.depth (units_at l.self) ≡ has_separator 0 (units_at l.fn.self);
  fits : l.depth + unit_count (units_at l.self) ≤ unit_count (units_at l.fn.self);
  same : SameUnits l.fn.self l.self;
}

abbrev pub decreases-units : goal.decreases-units
decreases-units l = unit_count (units_at l.self)
