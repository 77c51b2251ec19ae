-- The weight of trees: how many nodes and lists are in them. It decreases where a function goes into a tree.
use Rattle.std.specs.Prelude.{ℕ, ◌+◌}
use Rattle.latex2mathml_trees.specs.Tree.{Tree, Trees, applied, subscript, superscript, sub_sup, over_op, under_op, overset, underset, under, under_over, root, sqrt, frac, row, fenced, matrix, slashed, style, no_trees, more_trees}

abbrev mutual
  -- how many nodes and lists are in a tree, without the tree itself
  pub weight : Tree → ℕ
  weight (applied name x) = weight x + 1
  weight (subscript x y) = weight x + weight y + 2
  weight (superscript x y) = weight x + weight y + 2
  weight (sub_sup x y z) = weight x + weight y + weight z + 3
  weight (over_op c accent x) = weight x + 1
  weight (under_op c accent x) = weight x + 1
  weight (overset x y) = weight x + weight y + 2
  weight (underset x y) = weight x + weight y + 2
  weight (under x y) = weight x + weight y + 2
  weight (under_over x y z) = weight x + weight y + weight z + 3
  weight (root x y) = weight x + weight y + 2
  weight (sqrt x) = weight x + 1
  weight (frac x y thickness) = weight x + weight y + 2
  weight (row members) = weights members + 1
  weight (fenced opening close x) = weight x + 1
  weight (matrix members align) = weights members + 1
  weight (slashed x) = weight x + 1
  weight (style display x) = weight x + 1
  weight leaf = 0

  -- how many nodes are in a list of trees, with the nodes and lists in them
  pub weights : Trees → ℕ
  weights no_trees = 0
  weights (more_trees x rest) = weight x + weights rest + 1
