-- The markup of groups.
use Rattle.std.proofs.Common.{◌≡◌, ◌+◌, List, [], ◌∷◌, ◌++◌, Option, None, Some, ℕ, map, take, ap, append_assoc, refl, reverse, sum_by, arith}
use Rattle.std.proofs.lemmas.Grind.{common_steps}
use Rattle.latex2mathml_trees.specs.Print.{member_print, members_print, print, prints}
use Rattle.latex2mathml_trees.specs.Tree.{Tree, letter, row, trees_of}
use Rattle.latex2mathml_tokens.specs.{declared.attribute.ColumnAlign.ColumnAlign, declared.attribute.Variant.Variant}
use Rattle.latex2mathml_parts.specs.{Forms.members_of, Forms.in_style, Shapes.print_weight, declared.write.groups.Group.Group}
use Rattle.latex2mathml_parts.specs.Groups.{group_close, group_open, members_in, tree_of_group}
use Rattle.latex2mathml_parts.specs.declared.write.groups.Group.TheVariants as group
use Rattle.latex2mathml_parts.proofs.{Leaves.no_more, Works.members_weight}

prints-in : (s : Option Variant) (xs : List Tree) → prints (trees_of (map (in_style s) xs)) ≡ members_in group.Row s xs
prints-in s [] = refl
prints-in s (x ∷ xs) = ap (λ l. print (in_style s x) ++ l) (prints-in s xs)

-- a style changes no mark
same_mark : (s : Option Variant) (x : Tree) (own : List ℕ) → member_print (in_style s x) own ≡ member_print x own
same_mark None x own = refl
same_mark (Some v) (letter c w) own = refl
same_mark (Some v) (row xs) own = refl
same_mark (Some v) x own = refl

cells-in : (align : ColumnAlign) (s : Option Variant) (xs : List Tree) → members_print (trees_of (map (in_style s) xs)) ≡ members_in (group.Matrix align) s xs
cells-in align s [] = refl
cells-in align s (x ∷ xs) = cc (same_mark s x (print (in_style s x)), cells-in align s xs)

pub group_print : (g : Group) (s : Option Variant) (count : ℕ) (ts : List Tree) → group_open g ++ (members_in g s (reverse (take count ts)) ++ group_close g) ≡ print (tree_of_group g (members_of s count ts))
group_print group.Row s count ts = rw (prints-in s (reverse (take count ts)))
group_print (group.Matrix align) s count ts = rw (cells-in align s (reverse (take count ts))) (simp append_assoc)

-- what is pushed for members is less than what there is to write of the group
pub group_weight : (g : Group) (s : Option Variant) (count : ℕ) (ts : List Tree) → print_weight (tree_of_group g (members_of s count ts)) ≡ sum_by print_weight (take count ts) + 16
group_weight group.Row s count ts = omega (arith, members_weight s count ts)
group_weight (group.Matrix align) s count ts = omega (arith, members_weight s count ts)

pub ruleset group_steps = (group_print, group_weight, no_more, common_steps)
