-- Trees in a style. No style changes a tree that is neither a letter nor a row.
use Rattle.std.proofs.Common.{◌≡◌, ◌+◌, List, [], ◌∷◌, Option, None, Some, map, refl, ap}
use Rattle.latex2mathml_trees.specs.{Style.all_styled, Style.styled, Weight.weight, Weight.weights}
use Rattle.latex2mathml_trees.specs.Tree.{Tree, Trees, no_trees, more_trees, letter, row, trees_of}
use Rattle.latex2mathml_tokens.specs.declared.attribute.Variant.{Variant}
use Rattle.latex2mathml_parts.specs.Forms.{in_style}

-- giving no style changes nothing
pub plain : (xs : List Tree) → map (in_style None) xs ≡ xs
plain [] = refl
plain (x ∷ xs) = ap (λ l. x ∷ l) (plain xs)

-- of two styles, the one that is given later stays
mutual
  twice : (v w : Variant) (x : Tree) → styled v (styled w x) ≡ styled v x
  twice v w (letter c own) = refl
  twice v w (row xs) = ap row (all_twice v w xs)
  twice v w x = refl

  all_twice : (v w : Variant) (xs : Trees) → all_styled v (all_styled w xs) ≡ all_styled v xs
  all_twice v w no_trees = refl
  all_twice v w (more_trees x rest) = cc (twice v w x, all_twice v w rest)

pub styled_members : (v : Variant) (s : Option Variant) (xs : List Tree) → all_styled v (trees_of (map (in_style s) xs)) ≡ trees_of (map (in_style (Some v)) xs)
styled_members v s [] = refl
styled_members v None (x ∷ xs) = cc (styled_members v None xs)
styled_members v (Some w) (x ∷ xs) = cc (twice v w x, styled_members v (Some w) xs)

-- a style weighs nothing
mutual
  same_weight : (v : Variant) (x : Tree) → weight (styled v x) ≡ weight x
  same_weight v (letter c own) = refl
  same_weight v (row xs) = ap (λ n. n + 1) (same_weights v xs)
  same_weight v x = refl

  same_weights : (v : Variant) (xs : Trees) → weights (all_styled v xs) ≡ weights xs
  same_weights v no_trees = refl
  same_weights v (more_trees x rest) = cc (same_weight v x, same_weights v rest)

pub weights_in : (s : Option Variant) (xs : List Tree) → weights (trees_of (map (in_style s) xs)) ≡ weights (trees_of xs)
weights_in s [] = refl
weights_in None (x ∷ xs) = cc (weights_in None xs)
weights_in (Some v) (x ∷ xs) = cc (same_weight v x, weights_in (Some v) xs)
