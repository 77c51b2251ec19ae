-- What is written of nodes, one after another.
use Rattle.std.proofs.Common.{◌≡◌, ℕ, zero, suc, ◌+◌, ◌<◌, List, [], ◌∷◌, ◌++◌, length, get_or, take, append_assoc, append-nil, refl, sym, ap, ◌∙◌, add-one, arith}
use Rattle.latex2mathml_nodes.specs.{declared.ast.Node.Node, Nodes.tree, Nodes.trees}
use Rattle.latex2mathml_trees.specs.Tree.{Tree, Trees, no_trees, more_trees}

-- one more node at index i, if all trees are written one by one
pub one_more : (all_of : Trees → List ℕ) (one : Tree → List ℕ) → all_of no_trees ≡ [] → ((x : Tree) (rest : Trees) → all_of (more_trees x rest) ≡ one x ++ all_of rest) → (nodes : List Node) (i : ℕ) (x : Node) → i < length nodes → x ≡ get_or nodes i x → all_of (trees (take i nodes)) ++ one (tree x) ≡ all_of (trees (take (i + 1) nodes))
one_more all_of one none more [] i x h e = absurd (omega arith)
one_more all_of one none more (y ∷ ys) zero x h e = rw (none, more, none, append-nil, e) refl
one_more all_of one none more (y ∷ ys) (suc i) x h e =
    let rest = rw add-one at (one_more all_of one none more ys i x (omega arith) e) in
    rw add-one
    (ap (λ l. l ++ one (tree x)) (more (tree y) (trees (take i ys)))
    ∙ append_assoc (one (tree y)) (all_of (trees (take i ys))) (one (tree x))
    ∙ ap (λ l. one (tree y) ++ l) rest
    ∙ sym (more (tree y) (trees (take (suc i) ys))))
