-- Trees of formulas, and the trees that nodes represent.
pub use Rattle.latex2mathml_trees.specs.Tree.{Tree, Trees, number, letter, operator, function, applied, space, subscript, superscript, sub_sup, over_op, under_op, overset, underset, under, under_over, root, sqrt, frac, row, fenced, stretched, other_operator, sized_paren, words, matrix, ampersand, new_line, slashed, style, undefined, no_trees, more_trees, trees_of, function_tree, root_tree, Tree-discrete}
pub use Rattle.latex2mathml_nodes.specs.Nodes.{tree, trees, optional_tree, tree_step, unboxed}
