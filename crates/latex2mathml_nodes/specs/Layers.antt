-- The topmost layer of a tree: a number for its kind, its values, and the trees in it. These three determine the tree.
use Rattle.std.specs.Prelude.{ℕ, ℤ, ◌+◌, Bool, List, Option}
use Rattle.latex2mathml_nodes.specs.{Nodes.tree, Nodes.trees, declared.ast.layer.Inner.Inner, declared.ast.layer.Value.Value}
use Rattle.latex2mathml_nodes.specs.declared.ast.layer.Inner.TheVariants as inner
use Rattle.latex2mathml_nodes.specs.declared.ast.layer.Value.TheVariants as value
use Rattle.latex2mathml_tokens.specs.{declared.DisplayStyle.DisplayStyle, declared.attribute.Accent.Accent}
use Rattle.latex2mathml_tokens.specs.{declared.attribute.ColumnAlign.ColumnAlign, declared.attribute.LineThickness.LineThickness}
use Rattle.latex2mathml_tokens.specs.declared.attribute.Variant.{Variant}
use Rattle.latex2mathml_trees.specs.Tree.{Tree, Trees, number, letter, operator, function, applied, space, subscript, superscript, sub_sup, over_op, under_op, overset, underset, under, under_over, root, sqrt, frac, row, fenced, stretched, other_operator, sized_paren, words, matrix, ampersand, new_line, slashed, style, undefined}
use Rattle.latex2mathml_trees.specs.Weight.{weight, weights}

-- what a tree holds in addition to trees
pub data Own : Type 0 where
  nothing : Own
  text : List ℕ → Own
  texts : List ℕ → List ℕ → Own
  sign : ℕ → Own
  styled_sign : ℕ → Variant → Own
  accented_sign : ℕ → Accent → Own
  width : ℤ → Own
  line : LineThickness → Own
  stretching : Bool → List ℕ → Own
  columns : ColumnAlign → Own
  display : Option DisplayStyle → Own

-- the trees that a tree holds
pub data Within : Type 0 where
  no_tree : Within
  one_tree : Tree → Within
  two_trees : Tree → Tree → Within
  three_trees : Tree → Tree → Tree → Within
  all_trees : Trees → Within

abbrev pub layer_of : Tree → ℕ × Own × Within
layer_of (number digits) = (0, text digits, no_tree)
layer_of (letter c variant) = (1, styled_sign c variant, no_tree)
layer_of (operator c) = (2, sign c, no_tree)
layer_of (function name) = (3, text name, no_tree)
layer_of (applied name x) = (4, text name, one_tree x)
layer_of (space w) = (5, width w, no_tree)
layer_of (subscript x y) = (6, nothing, two_trees x y)
layer_of (superscript x y) = (7, nothing, two_trees x y)
layer_of (sub_sup x y z) = (8, nothing, three_trees x y z)
layer_of (over_op c accent x) = (9, accented_sign c accent, one_tree x)
layer_of (under_op c accent x) = (10, accented_sign c accent, one_tree x)
layer_of (overset x y) = (11, nothing, two_trees x y)
layer_of (underset x y) = (12, nothing, two_trees x y)
layer_of (under x y) = (13, nothing, two_trees x y)
layer_of (under_over x y z) = (14, nothing, three_trees x y z)
layer_of (root x y) = (15, nothing, two_trees x y)
layer_of (sqrt x) = (16, nothing, one_tree x)
layer_of (frac x y thickness) = (17, line thickness, two_trees x y)
layer_of (row members) = (18, nothing, all_trees members)
layer_of (fenced opening close x) = (19, texts opening close, one_tree x)
layer_of (stretched is_stretchy t) = (20, stretching is_stretchy t, no_tree)
layer_of (other_operator t) = (21, text t, no_tree)
layer_of (sized_paren size paren) = (22, texts size paren, no_tree)
layer_of (words t) = (23, text t, no_tree)
layer_of (matrix members align) = (24, columns align, all_trees members)
layer_of ampersand = (25, nothing, no_tree)
layer_of new_line = (26, nothing, no_tree)
layer_of (slashed x) = (27, nothing, one_tree x)
layer_of (style d x) = (28, display d, one_tree x)
layer_of (undefined t) = (29, text t, no_tree)

-- how many nodes and lists are in the trees
abbrev pub weight_within : Within → ℕ
weight_within no_tree = 0
weight_within (one_tree x) = weight x + 1
weight_within (two_trees x y) = weight x + weight y + 2
weight_within (three_trees x y z) = weight x + weight y + weight z + 3
weight_within (all_trees members) = weights members + 1

-- what the values of the code represent
abbrev pub own : Value → Own
own value.None = nothing
own (value.Text t) = text t.now
own (value.Texts t u) = texts t.now u.now
own (value.Sign c) = sign c
own (value.Styled c variant) = styled_sign c variant
own (value.Accented c accent) = accented_sign c accent
own (value.Width w) = width w
own (value.Line thickness) = line thickness
own (value.Stretching is_stretchy t) = stretching is_stretchy t.now
own (value.Columns align) = columns align
own (value.Display d) = display d

-- the trees of the nodes of the code
abbrev pub within : Inner → Within
within inner.None = no_tree
within (inner.One x) = one_tree (tree x.now)
within (inner.Two x y) = two_trees (tree x.now) (tree y.now)
within (inner.Three x y z) = three_trees (tree x.now) (tree y.now) (tree z.now)
within (inner.All members) = all_trees (trees members.now)
