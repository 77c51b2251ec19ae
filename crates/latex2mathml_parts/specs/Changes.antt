-- How the parser's calls change the last trees of a list of parts.
use Rattle.std.specs.Prelude.{◌≡◌, ℕ, List, ◌∷◌, Option, Some, None, drop, reverse, take}
use Rattle.latex2mathml_trees.specs.Productions.{environment_tree, group_tree}
use Rattle.latex2mathml_trees.specs.Tree.{Tree, undefined}
use Rattle.latex2mathml_parts.specs.{Forests.Forest, Forests.trees_in, Parts.top, Parts.words_of}
use Rattle.latex2mathml_tokens.specs.{Lexemes.lexeme_tok, Tok.token_text, declared.lexeme.Lexeme.Lexeme}

-- this tree took the place of the last n
abbrev pub Makes : Tree → ℕ → Forest → Forest → Type 0
Makes x n old new = trees_in new ≡ x ∷ drop n (trees_in old)

-- this tree, where there is one, took the place of the last n
abbrev pub MakesSome : Option Tree → ℕ → Forest → Forest → Type 0
MakesSome made n old new = (x : Tree) × (made ≡ Some x) × Makes x n old new

-- there is no such tree, and the trees stay
abbrev pub MakesNone : Option Tree → Forest → Forest → Type 0
MakesNone made old new = (made ≡ None) × (trees_in new ≡ trees_in old)

-- the tree of a lexeme that has no meaning in its place
abbrev pub error_tree : Lexeme → Tree
error_tree lexeme = undefined (token_text (lexeme_tok lexeme))

-- the last n trees as one tree
abbrev pub group_of : Forest → ℕ → Tree
group_of f n = group_tree (reverse (take n (trees_in f)))

-- the words below the last n trees
abbrev pub name_below : Forest → ℕ → List ℕ
name_below f n = words_of (top (drop n (trees_in f)))

-- the environment of the last n trees, by the name below them
abbrev pub environment_of : Forest → ℕ → Option Tree
environment_of f n = environment_tree (name_below f n) (group_of f n)
