-- The members before the index are equal. Also how much each function still has to compare.
use Rattle.std.proofs.Common.{◌≡◌, ◌+◌, ◌*◌, length, map, take}
use Rattle.latex2mathml_nodes.specs.{Layers.weight_within, Layers.within, Nodes.tree, Nodes.trees}
use Rattle.latex2mathml_trees.specs.Weight.{weight, weights}
use Rattle.latex2mathml_nodes.proofs.ast.equality.+same.Given as goal

abbrev pub invariant-same_members-loop-i : goal.invariant-same_members-loop-i
invariant-same_members-loop-i l = record {
  lengths : length l.a ≡ length l.b;
  so_far : map tree (take l.i l.a) ≡ map tree (take l.i l.b);
}

abbrev pub decreases-same_contents : goal.decreases-same_contents
decreases-same_contents l = 2 * weight (tree l.a.now) + 1

abbrev pub decreases-same_inner : goal.decreases-same_inner
decreases-same_inner l = 2 * weight_within (within l.a)

abbrev pub decreases-same_members : goal.decreases-same_members
decreases-same_members l = 2 * weights (trees l.a.now)
