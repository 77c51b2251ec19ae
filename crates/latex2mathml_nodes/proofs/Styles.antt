-- The style of nodes, one after another.
use Rattle.std.proofs.Common.{◌≡◌, ℕ, ◌+◌, ◌<◌, List, [], ◌∷◌, ◌++◌, length, get_or, take, set, refl, ap, arith}
use Rattle.std.proofs.{lemmas.Grind.common_steps, lemmas.List.take_more, lemmas.List.take_more_set}
use Rattle.latex2mathml_nodes.specs.{declared.ast.Node.Node, Nodes.tree, Nodes.trees}
use Rattle.latex2mathml_tokens.specs.declared.attribute.Variant.{Variant}
use Rattle.latex2mathml_trees.specs.Style.{all_styled, styled}
use Rattle.latex2mathml_trees.specs.Tree.{Tree, Trees, no_trees, more_trees, letter, row}

pub styled-push : (v : Variant) (xs ys : List Node) (x y : Node) → trees xs ≡ all_styled v (trees ys) → tree x ≡ styled v (tree y) → trees (xs ++ x ∷ []) ≡ all_styled v (trees (ys ++ y ∷ []))
styled-push v [] [] x y e f = cc
styled-push v (a ∷ xs) (b ∷ ys) x y e f = let more : trees (xs ++ x ∷ []) ≡ all_styled v (trees (ys ++ y ∷ [])) = styled-push v xs ys x y (cc) f in cc
styled-push v xs ys x y e f = cc

-- one more node at index i
pub styled_more : (v : Variant) (now before : List Node) (i : ℕ) (x y : Node) → i < length now → i < length before → y ≡ get_or before i y → trees (take i now) ≡ all_styled v (trees (take i before)) → tree x ≡ styled v (tree y) → trees (take (i + 1) (set now i x)) ≡ all_styled v (trees (take (i + 1) before))
styled_more v now before i x y h k is e f = grind (arith, common_steps, styled-push v, take_more_set now i x h, take_more before i y k)

-- the later one of two styles stays
mutual
  pub restyled : (v w : Variant) (x : Tree) → styled w (styled v x) ≡ styled w x
  restyled v w (letter c own) = refl
  restyled v w (row members) = ap row (all_restyled v w members)
  restyled v w x = refl

  pub all_restyled : (v w : Variant) (xs : Trees) → all_styled w (all_styled v xs) ≡ all_styled w xs
  all_restyled v w no_trees = refl
  all_restyled v w (more_trees x rest) = rw (restyled v w x, all_restyled v w rest) refl
