use Rattle.std.proofs.Common.{◌≡◌, ◌≤◌, length, drop}
use Rattle.latex2mathml_parts.specs.Forests.{trees_at, trees_in}
use Rattle.latex2mathml_parts.proofs.parts.Parts.before.Given as goal

abbrev pub invariant-trees : goal.invariant-trees
invariant-trees l = record {
  within : l.place ≤ length l.fn.self.list;
  all : l.left ≤ length (trees_at l.fn.self l.place);
  trees : drop l.left (trees_at l.fn.self l.place) ≡ drop l.fn.count (trees_in l.fn.self);
}

abbrev pub decreases-trees : goal.decreases-trees
decreases-trees l = l.left
