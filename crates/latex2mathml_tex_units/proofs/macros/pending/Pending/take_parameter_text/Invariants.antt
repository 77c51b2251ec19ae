use Rattle.std.proofs.Common.{◌≡◌, ◌≤◌}
use Rattle.latex2mathml_tex_grammar.specs.{Definitions.parameter_text, Definitions.parameters_behind, Macros.unit_count}
use Rattle.latex2mathml_tex_units.specs.{Bodies.taken_in, Pending.pending_units}
use Rattle.latex2mathml_tex_units.proofs.Grouping.{with_all}
use Rattle.latex2mathml_tex_units.proofs.macros.pending.Pending.take_parameter_text.Given as goal

abbrev pub invariant-units : goal.invariant-units
invariant-units l = record {
  most : l.count ≤ 9;
  same : parameter_text l.place (pending_units l.fn.self) ≡ with_all (taken_in l.takes) (parameters_behind l.place (pending_units l.self) l.behind_number_sign l.count);
}

abbrev pub decreases-units : goal.decreases-units
decreases-units l = unit_count (pending_units l.self)
