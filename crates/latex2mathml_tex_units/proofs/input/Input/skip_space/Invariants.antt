use Rattle.std.proofs.Common.{◌≡◌}
use Rattle.latex2mathml_tex_grammar.specs.Next.{past_space}
use Rattle.latex2mathml_tex_units.specs.Left.{SameUnits, unit_count, units_at}
use Rattle.latex2mathml_tex_units.proofs.input.Input.skip_space.Given as goal

abbrev pub invariant-space : goal.invariant-space
invariant-space l = record {
  left : past_space (units_at l.self) ≡ past_space (units_at l.fn.self);
  same : SameUnits l.fn.self l.self;
}

abbrev pub decreases-space : goal.decreases-space
decreases-space l = unit_count (units_at l.self)
