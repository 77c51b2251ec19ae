-- Groups of trees: the members, and what surrounds them.
use Rattle.std.specs.Prelude.{◌≡◌, ℕ, List, ◌++◌, Option, codes}
use Rattle.std.specs.List.{flat_map}
use Rattle.latex2mathml_trees.specs.Print.{member_print, print}
use Rattle.latex2mathml_trees.specs.Tree.{Tree, Trees, matrix, row}
use Rattle.latex2mathml_tokens.specs.{Attributes.align_text, declared.attribute.Variant.Variant}
use Rattle.latex2mathml_parts.specs.{Forests.Forest, Forests.trees_at, Forms.in_style, Forms.members_of, declared.write.groups.Group.Group}
use Rattle.latex2mathml_parts.specs.{Shapes.ending_text, declared.write.shapes.Tag.Tag}
use Rattle.latex2mathml_parts.specs.declared.write.groups.Group.TheVariants as group

-- the tree of a group
abbrev pub tree_of_group : Group → Trees → Tree
tree_of_group group.Row members = row members
tree_of_group (group.Matrix align) members = matrix members align

abbrev pub group_open : Group → List ℕ
group_open group.Row = codes "<mrow>"
group_open (group.Matrix align) = codes "<mtable" ++ (align_text align ++ codes "><mtr><mtd>")

abbrev pub group_close : Group → List ℕ
group_close group.Row = codes "</mrow>"
group_close (group.Matrix align) = codes "</mtd></mtr></mtable>"

-- the print of a member in a style, and of several
abbrev pub member_in : Group → Option Variant → Tree → List ℕ
member_in group.Row style x = print (in_style style x)
member_in (group.Matrix align) style x = member_print x (print (in_style style x))

abbrev pub members_in : Group → Option Variant → List Tree → List ℕ
members_in g style = flat_map (member_in g style)

-- the group of the last `count` trees of the first `end` parts, in a style
abbrev pub group_at : Forest → Group → ℕ → Option Variant → ℕ → Tree
group_at f g count style end = tree_of_group g (members_of style count (trees_at f end))

-- how many operands precede the members: the environment's name
abbrev pub names_of : Group → ℕ
names_of group.Row = 0
names_of (group.Matrix align) = 1

-- in any style, a member is written as what ends this, or as itself
abbrev pub IsMark : Group → Tree → Tag → Type 0
IsMark g x tag = (style : Option Variant) → member_in g style x ≡ ending_text tag

abbrev pub IsNoMark : Group → Tree → Type 0
IsNoMark g x = (style : Option Variant) → member_in g style x ≡ print (in_style style x)
