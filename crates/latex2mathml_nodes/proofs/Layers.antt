-- The topmost layer of a tree determines the tree. The weight of a tree is that of the trees in it.
use Rattle.std.proofs.Common.{◌≡◌, ◌↔◌, ◌∙◌, ◌==◌, if◌then◌else◌, ℕ, refl, sym, ap}
use Rattle.latex2mathml_nodes.specs.Layers.{Own, Within, layer_of, weight_within, nothing, text, texts, sign, styled_sign, accented_sign, width, line, stretching, columns, display, no_tree, one_tree, two_trees, three_trees, all_trees}
use Rattle.latex2mathml_trees.specs.Tree.{Tree, number, letter, operator, function, applied, space, subscript, superscript, sub_sup, over_op, under_op, overset, underset, under, under_over, root, sqrt, frac, row, fenced, stretched, other_operator, sized_paren, words, matrix, ampersand, new_line, slashed, style, undefined}
use Rattle.latex2mathml_trees.specs.Weight.{weight}

pub weighs : (t : Tree) → weight t ≡ weight_within (layer_of t).2
weighs (number digits) = refl
weighs t = refl

-- the tree with this layer, if there is one
tree_with : ℕ × Own × Within → Tree
tree_with (k, text a, no_tree) = if k == 0 then number a else (if k == 3 then function a else (if k == 21 then other_operator a else (if k == 23 then words a else undefined a)))
tree_with (k, styled_sign a b, no_tree) = letter a b
tree_with (k, sign a, no_tree) = operator a
tree_with (k, text a, one_tree x) = applied a x
tree_with (k, width a, no_tree) = space a
tree_with (k, nothing, two_trees x y) = if k == 6 then subscript x y else (if k == 7 then superscript x y else (if k == 11 then overset x y else (if k == 12 then underset x y else (if k == 13 then under x y else root x y))))
tree_with (k, nothing, three_trees x y z) = if k == 8 then sub_sup x y z else under_over x y z
tree_with (k, accented_sign a b, one_tree x) = if k == 9 then over_op a b x else under_op a b x
tree_with (k, nothing, one_tree x) = if k == 16 then sqrt x else slashed x
tree_with (k, line a, two_trees x y) = frac x y a
tree_with (k, nothing, all_trees x) = row x
tree_with (k, texts a b, one_tree x) = fenced a b x
tree_with (k, stretching a b, no_tree) = stretched a b
tree_with (k, texts a b, no_tree) = sized_paren a b
tree_with (k, columns a, all_trees x) = matrix x a
tree_with (k, nothing, no_tree) = if k == 25 then ampersand else new_line
tree_with (k, display a, one_tree x) = style a x
tree_with other = ampersand

tree_with-layer_of : (t : Tree) → tree_with (layer_of t) ≡ t
unfolding tree_with
tree_with-layer_of (number digits) = refl
tree_with-layer_of t = refl

same_trees : (t u : Tree) → layer_of t ≡ layer_of u → t ≡ u
same_trees t u e = sym (tree_with-layer_of t) ∙ ap tree_with e ∙ tree_with-layer_of u

-- equal trees have the same layer
pub same_layers : (t u : Tree) (l m : ℕ × Own × Within) → layer_of t ≡ l → layer_of u ≡ m → t ≡ u → l ≡ m
same_layers t u l m e f h = sym e ∙ ap layer_of h ∙ f

-- trees of the same kind with equal values are equal if and only if the trees in them are
pub same_inside : (t u : Tree) (k l : ℕ) (v w : Own) (x y : Within) → layer_of t ≡ (k, v, x) → layer_of u ≡ (l, w, y) → k ≡ l → v ≡ w → (x ≡ y) ↔ (t ≡ u)
same_inside t u k l v w x y e f p q = (λ r. same_trees t u (cc), λ h. ap (λ m. m.2) (same_layers _ _ _ _ e f h))
