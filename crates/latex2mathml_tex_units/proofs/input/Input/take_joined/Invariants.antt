use Rattle.std.proofs.Common.{◌≡◌}
use Rattle.latex2mathml_tex_grammar.specs.Ligatures.{joined}
use Rattle.latex2mathml_tex_units.specs.Left.{SameUnits, unit_count, units_at}
use Rattle.latex2mathml_tex_units.proofs.input.Input.take_joined.Given as goal

abbrev pub invariant-characters : goal.invariant-characters
invariant-characters l = record {
  joined : joined l.last (units_at l.self) ≡ joined l.fn.first (units_at l.fn.self);
  same : SameUnits l.fn.self l.self;
}

abbrev pub decreases-characters : goal.decreases-characters
decreases-characters l = unit_count (units_at l.self)
