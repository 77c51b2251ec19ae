-- The copies so far are those of the nodes so far.
use Rattle.std.proofs.Common.{◌≡◌, map, take}
use Rattle.latex2mathml_nodes.specs.Nodes.{tree}
use Rattle.latex2mathml_nodes.proofs.ast.+clone.Given as goal

abbrev pub invariant-clone_all-loop-node : goal.invariant-clone_all-loop-node
invariant-clone_all-loop-node l = map tree l.copies.items ≡ map tree (take l.node-index l.nodes)
