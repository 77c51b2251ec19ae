-- The trees that nodes of the code represent.
use Rattle.std.specs.Prelude.{List, string_bytes, map, Option, option_map, Box}
use Rattle.std.specs.declared.alloc.Global.{Global}
use Rattle.latex2mathml_nodes.specs.{declared.ast.Node.Node, declared.ast.Node.fold-Node, declared.ast.Node.TheOpen.Node-F}
use Rattle.latex2mathml_trees.specs.Tree.{Tree, Trees, function_tree, root_tree, trees_of, number, letter, operator, space, subscript, superscript, sub_sup, over_op, under_op, overset, underset, under, under_over, frac, row, fenced, stretched, other_operator, sized_paren, words, matrix, ampersand, new_line, slashed, style, undefined}

abbrev pub unboxed : Option (Box Tree Global) → Option Tree
unboxed = option_map (λ x. x.value)

-- one level of a node of the code, where each inner node is already its tree
abbrev pub tree_step : Node-F Tree → Tree
tree_step (Node-F.Number digits) = number (string_bytes digits)
tree_step (Node-F.Letter c variant) = letter c variant
tree_step (Node-F.Operator c) = operator c
tree_step (Node-F.Function name argument) = function_tree (string_bytes name) (unboxed argument)
tree_step (Node-F.Space width) = space width
tree_step (Node-F.Subscript target sub) = subscript target.value sub.value
tree_step (Node-F.Superscript target sup) = superscript target.value sup.value
tree_step (Node-F.SubSup target sub sup) = sub_sup target.value sub.value sup.value
tree_step (Node-F.OverOp c accent x) = over_op c accent x.value
tree_step (Node-F.UnderOp c accent x) = under_op c accent x.value
tree_step (Node-F.Overset above target) = overset above.value target.value
tree_step (Node-F.Underset below target) = underset below.value target.value
tree_step (Node-F.Under target below) = under target.value below.value
tree_step (Node-F.UnderOver target below above) = under_over target.value below.value above.value
tree_step (Node-F.Sqrt degree x) = root_tree (unboxed degree) x.value
tree_step (Node-F.Frac numerator denominator thickness) = frac numerator.value denominator.value thickness
tree_step (Node-F.Row members) = row (trees_of members.items)
tree_step (Node-F.Fenced opening close x) = fenced opening.now close.now x.value
tree_step (Node-F.StrechedOp is_stretchy text) = stretched is_stretchy (string_bytes text)
tree_step (Node-F.OtherOperator text) = other_operator text.now
tree_step (Node-F.SizedParen size paren) = sized_paren size.now paren.now
tree_step (Node-F.Text text) = words (string_bytes text)
tree_step (Node-F.Matrix members align) = matrix (trees_of members.items) align
tree_step Node-F.Ampersand = ampersand
tree_step Node-F.NewLine = new_line
tree_step (Node-F.Slashed x) = slashed x.value
tree_step (Node-F.Style display x) = style display x.value
tree_step (Node-F.Undefined text) = undefined (string_bytes text)

-- the tree of a node of the code
abbrev pub tree : Node → Tree
tree = fold-Node Tree tree_step

-- the tree of a node that may be missing
abbrev pub optional_tree : Option (Box Node Global) → Option Tree
optional_tree = option_map (λ x. tree x.value)

abbrev pub trees : List Node → Trees
trees nodes = trees_of (map tree nodes)
