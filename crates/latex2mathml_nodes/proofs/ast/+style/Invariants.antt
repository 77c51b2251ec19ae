-- The members before the index have the style, and those from it on are unchanged.
use Rattle.std.proofs.Common.{◌≡◌, take}
use Rattle.latex2mathml_trees.specs.Style.{all_styled}
use Rattle.latex2mathml_nodes.specs.Nodes.{trees}
use Rattle.latex2mathml_nodes.proofs.ast.+style.Given as goal

abbrev pub invariant-style::set_all-loop-node : goal.invariant-style::set_all-loop-node
invariant-style::set_all-loop-node l = record {
  unvisited : goal.unvisited-style::set_all-loop-node l;
  so_far : trees (take l.node-index l.nodes) ≡ all_styled l.variant (trees (take l.node-index l.initial.nodes));
}
