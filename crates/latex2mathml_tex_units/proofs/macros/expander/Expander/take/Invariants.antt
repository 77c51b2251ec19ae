use Rattle.std.proofs.Common.{◌≡◌, ◌+◌, None}
use Rattle.latex2mathml_tex_grammar.specs.Macros.{unit_count}
use Rattle.latex2mathml_tex_units.specs.{Expanded.still_expanded, Pending.pending_units}
use Rattle.latex2mathml_tex_units.proofs.macros.expander.Expander.take.Given as goal

abbrev pub invariant-units : goal.invariant-units
invariant-units l = record {
  none : l.self.refused ≡ None;
  same : still_expanded l.self ≡ still_expanded l.fn.self;
}

abbrev pub decreases-units : goal.decreases-units
decreases-units l = unit_count (pending_units l.self.pending) + l.self.room
