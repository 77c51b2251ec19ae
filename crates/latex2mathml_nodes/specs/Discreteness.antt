-- Equality of trees is decidable.
use Rattle.std.specs.Prelude.{Bool}
use mathlib.Core.Bool.{Bool-discrete}
use mathlib.Core.HLevel.{Discrete}
use mathlib.Core.List.{List-discrete}
use native.Mathlib.Decide.{ℕ_discrete}
use lib.IntN.{ℤ_discrete}
use Rattle.latex2mathml_tokens.specs.Discreteness.{variant-discrete, accent-discrete, thickness-discrete, align-discrete, display-discrete}
use Rattle.latex2mathml_tokens.specs.Same.{optional, same}
use Rattle.latex2mathml_trees.specs.Tree.{Tree, Tree-discrete}

pub tree-discrete : Discrete Tree
tree-discrete = Tree-discrete (List-discrete ℕ_discrete) ℕ_discrete variant-discrete ℤ_discrete accent-discrete thickness-discrete Bool-discrete align-discrete (optional display-discrete)

-- whether two trees are equal
abbrev pub same_tree : Tree → Tree → Bool
same_tree = same tree-discrete
