-- Trees in which no function has an argument. The name of a function and its argument print one after the other, so only
-- such a tree prints as one element.
use Rattle.std.specs.Prelude.{⊤}
use Rattle.latex2mathml_trees.specs.Tree.{Tree, Trees, number, letter, operator, function, applied, space, subscript, superscript, sub_sup, over_op, under_op, overset, underset, under, under_over, root, sqrt, frac, row, fenced, stretched, other_operator, sized_paren, words, matrix, ampersand, new_line, slashed, style, undefined, no_trees, more_trees}

abbrev mutual
  pub HasNoArgument : Tree → Type 0
  HasNoArgument (number digits) = ⊤
  HasNoArgument (letter c variant) = ⊤
  HasNoArgument (operator c) = ⊤
  HasNoArgument (function name) = ⊤
  HasNoArgument (applied name x) = ⊥
  HasNoArgument (space width) = ⊤
  HasNoArgument (subscript target sub) = HasNoArgument target × HasNoArgument sub
  HasNoArgument (superscript target sup) = HasNoArgument target × HasNoArgument sup
  HasNoArgument (sub_sup target sub sup) = HasNoArgument target × HasNoArgument sub × HasNoArgument sup
  HasNoArgument (over_op c accent x) = HasNoArgument x
  HasNoArgument (under_op c accent x) = HasNoArgument x
  HasNoArgument (overset above target) = HasNoArgument above × HasNoArgument target
  HasNoArgument (underset below target) = HasNoArgument below × HasNoArgument target
  HasNoArgument (under target below) = HasNoArgument target × HasNoArgument below
  HasNoArgument (under_over target below above) = HasNoArgument target × HasNoArgument below × HasNoArgument above
  HasNoArgument (root degree x) = HasNoArgument degree × HasNoArgument x
  HasNoArgument (sqrt x) = HasNoArgument x
  HasNoArgument (frac numerator denominator thickness) = HasNoArgument numerator × HasNoArgument denominator
  HasNoArgument (row members) = HaveNoArgument members
  HasNoArgument (fenced opening close x) = HasNoArgument x
  HasNoArgument (stretched is_stretchy text) = ⊤
  HasNoArgument (other_operator text) = ⊤
  HasNoArgument (sized_paren size paren) = ⊤
  HasNoArgument (words text) = ⊤
  HasNoArgument (matrix members align) = HaveNoArgument members
  HasNoArgument ampersand = ⊤
  HasNoArgument new_line = ⊤
  HasNoArgument (slashed x) = HasNoArgument x
  HasNoArgument (style display x) = HasNoArgument x
  HasNoArgument (undefined text) = ⊤

  pub HaveNoArgument : Trees → Type 0
  HaveNoArgument no_trees = ⊤
  HaveNoArgument (more_trees x rest) = HasNoArgument x × HaveNoArgument rest
