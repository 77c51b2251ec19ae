-- What an environment makes of a group.
use Rattle.std.specs.Prelude.{◌≡◌, ℕ, List, Some}
use Rattle.latex2mathml_trees.specs.{Productions.environment_tree, Productions.fenced_matrix, Productions.matrix_of, Tree.Tree}
use Rattle.latex2mathml_tokens.specs.Names.{paren_text}
use Rattle.latex2mathml_parts.specs.declared.environment.Environment.{Environment}
use Rattle.latex2mathml_parts.specs.declared.environment.Environment.TheVariants as environment

abbrev pub tree_around : Environment → Tree → Tree
tree_around (environment.Matrix align) group = matrix_of align group
tree_around (environment.Fenced opening close) group = fenced_matrix (paren_text opening) (paren_text close) group

-- the environment of this name
abbrev pub IsNamed : List ℕ → Environment → Type 0
IsNamed name environment = (group : Tree) → environment_tree name group ≡ Some (tree_around environment group)
