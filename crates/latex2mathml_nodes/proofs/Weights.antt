-- How many nodes and lists are in the members of a list.
use Rattle.std.proofs.Common.{◌≡◌, ℕ, zero, suc, ◌<◌, List, [], ◌∷◌, length, get_or, ap, arith}
use Rattle.latex2mathml_nodes.specs.{declared.ast.Node.Node, Nodes.tree, Nodes.trees}
use Rattle.latex2mathml_trees.specs.Weight.{weight, weights}

-- all members weigh more than the one at index i
pub weights_at : (xs : List Node) (i : ℕ) (x : Node) → i < length xs → x ≡ get_or xs i x → weight (tree x) < weights (trees xs)
weights_at [] i x h e = absurd (omega arith)
weights_at (y ∷ ys) zero x h e = omega (arith, ap (λ z. weight (tree z)) e)
weights_at (y ∷ ys) (suc i) x h e = omega (arith, weights_at ys i x (omega arith) e)
