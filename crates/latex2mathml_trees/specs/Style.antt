-- The style of letters, given to a tree by a command such as `\mathbf`.
use Rattle.latex2mathml_trees.specs.Tree.{Tree, Trees, letter, row, no_trees, more_trees}
use Rattle.latex2mathml_tokens.specs.declared.attribute.Variant.{Variant}

abbrev mutual
  -- a letter takes the style, and so does each member of a row, and its members in turn; nothing else changes
  pub styled : Variant → Tree → Tree
  styled variant (letter c own) = letter c variant
  styled variant (row members) = row (all_styled variant members)
  styled variant x = x

  pub all_styled : Variant → Trees → Trees
  all_styled variant no_trees = no_trees
  all_styled variant (more_trees x rest) = more_trees (styled variant x) (all_styled variant rest)
