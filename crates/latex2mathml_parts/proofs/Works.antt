-- The list of what is still to be written.
use Rattle.std.proofs.Common.{◌≡◌, ℕ, ◌*◌, ◌-◌, ◌<◌, ◌≤◌, List, [], ◌∷◌, zero, length, take, drop, suc, refl, ap, arith, Option, reverse, sum_by}
use Rattle.std.proofs.{lemmas.List.reverse-append, lemmas.List.Sums.sum_by-cons, lemmas.List.Sums.sum_by_push}
use Rattle.latex2mathml_trees.specs.{Tree.Tree, Tree.trees_of, Weight.weights}
use Rattle.latex2mathml_tokens.specs.declared.attribute.Variant.{Variant}
use Rattle.latex2mathml_parts.specs.{Forms.members_of, Parts.top, Shapes.print_weight}
use Rattle.latex2mathml_parts.proofs.Styles.{weights_in}

-- Members.

sum_reversed : (xs : List Tree) → sum_by print_weight (reverse xs) ≡ sum_by print_weight xs
sum_reversed [] = refl
sum_reversed (x ∷ xs) = rw (reverse-append (x ∷ []) xs) (omega (arith, sum_by_push print_weight (reverse xs) x, sum_reversed xs, sum_by-cons print_weight x xs))

-- the last of the members that are left
pub taken : (n : ℕ) (ts : List Tree) → 0 < n → n ≤ length ts → take n ts ≡ top ts ∷ take (n - 1) (drop 1 ts)
taken n [] h i = absurd (omega arith)
taken zero (t ∷ ts) h i = absurd (omega arith)
taken (suc j) (t ∷ ts) h i = ap (λ m. t ∷ take m ts) (omega arith)

weights_of : (xs : List Tree) → sum_by print_weight xs ≡ weights (trees_of xs) * 8
weights_of [] = refl
weights_of (x ∷ xs) = omega (arith, weights_of xs, sum_by-cons print_weight x xs)

-- what is pushed for members is what there is to write of them
pub members_weight : (s : Option Variant) (count : ℕ) (ts : List Tree) → sum_by print_weight (take count ts) ≡ weights (members_of s count ts) * 8
members_weight s count ts = let xs = take count ts in omega (arith, weights_in s (reverse xs), weights_of (reverse xs), sum_reversed xs)
