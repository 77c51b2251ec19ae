use Rattle.std.proofs.Common.{◌≡◌, ◌+◌, ◌-◌, ◌≤◌}
use Rattle.latex2mathml_builder.specs.Due.{has_line, settled_from}
use Rattle.latex2mathml_builder.proofs.builder.Builder.has_line.Given as goal

abbrev pub invariant-elements : goal.invariant-elements
invariant-elements l = record {
  within : l.place ≤ l.fn.first + l.fn.count;
  same : has_line (settled_from l.fn.self l.place (l.fn.first + l.fn.count - l.place)) ≡ has_line (settled_from l.fn.self l.fn.first l.fn.count);
}

abbrev pub decreases-elements : goal.decreases-elements
decreases-elements l = l.fn.first + l.fn.count - l.place
