-- Trees that rules of the grammar make of their parts, where one constructor is not enough, and the texts of fences.
use Rattle.std.specs.Prelude.{ℕ, ◌==◌, List, [], true, Option, Some, None, if◌then◌else◌, codes, ◌∷◌}
use Rattle.std.specs.{Char.encode_utf8, Str.byte, Str.bytes_eq}
use Rattle.latex2mathml_tokens.specs.{Tok.Tok, Tok.Operator, Tok.Paren, declared.DisplayStyle.DisplayStyle}
use Rattle.latex2mathml_trees.specs.Tree.{Tree, Trees, operator, overset, underset, frac, row, fenced, stretched, other_operator, matrix, style, no_trees, more_trees, trees_of}
use Rattle.latex2mathml_tokens.specs.{declared.attribute.LineThickness.TheVariants.Length, declared.attribute.ColumnAlign.ColumnAlign}
use Rattle.latex2mathml_tokens.specs.declared.attribute.ColumnAlign.TheVariants.{Center, Left}

-- the members of a group as one tree: a single member stays as it is, and no member or several are a row
abbrev pub group_tree : List Tree → Tree
group_tree [] = row no_trees
group_tree (x ∷ []) = x
group_tree (x ∷ y ∷ ys) = row (trees_of (x ∷ y ∷ ys))

-- the mark that a prime prints
abbrev pub prime_mark : Tree
prime_mark = operator 0x2032  -- ′

-- a fraction without a line, between parentheses
abbrev pub coefficient : Tree → Tree → Tree
coefficient upper lower = fenced (codes "(") (codes ")") (frac upper lower (Length 0))

-- a binomial coefficient: alone, or in a row with the style of a block or of a line of text
abbrev pub binomial_tree : Option DisplayStyle → Tree → Tree → Tree
binomial_tree None upper lower = coefficient upper lower
binomial_tree (Some display) upper lower = style (Some display) (row (more_trees (coefficient upper lower) no_trees))

-- a tree under a brace, which is a character; and under a brace with a label over it
abbrev pub overbrace_tree : ℕ → Tree → Tree
overbrace_tree c x = overset (operator c) x

-- a brace with a label above an operand
abbrev pub labelled_overbrace_tree : ℕ → Tree → Tree → Tree
labelled_overbrace_tree c label x = overset (overset label (operator c)) x

-- a tree over a brace; and over a brace with a label under it
abbrev pub underbrace_tree : ℕ → Tree → Tree
underbrace_tree c x = underset (operator c) x

-- a brace with a label below an operand
abbrev pub labelled_underbrace_tree : ℕ → Tree → Tree → Tree
labelled_underbrace_tree c label x = underset (underset label (operator c)) x

-- what a token prints as a fence: for a parenthesis its text, and for a period nothing
abbrev pub fence_of : Tok → Option (List ℕ)
fence_of (Paren text) = Some text
fence_of (Operator c) = if c == byte "." then Some [] else None
fence_of t = None

-- the operator that grows with what is around it, if the tree is an operator
abbrev pub stretched_operator : Tree → Option Tree
stretched_operator (operator c) = Some (stretched true (encode_utf8 c))
stretched_operator (other_operator text) = Some (stretched true text)
stretched_operator x = None

-- what a group gives to a matrix: the members if it is a row, otherwise itself as the one member
abbrev pub matrix_members : Tree → Trees
matrix_members (row members) = members
matrix_members x = more_trees x no_trees

-- a matrix of the members of a group
abbrev pub matrix_of : ColumnAlign → Tree → Tree
matrix_of align group = matrix (matrix_members group) align

-- a matrix between fences
abbrev pub fenced_matrix : List ℕ → List ℕ → Tree → Tree
fenced_matrix opening close group = fenced opening close (matrix_of Center group)

-- the environment of this name around a group, if there is one of this name
abbrev pub environment_tree : List ℕ → Tree → Option Tree
environment_tree name group =
    if bytes_eq name (codes "matrix") then Some (matrix_of Center group) else
    (if bytes_eq name (codes "align") then Some (matrix_of Left group) else
    (if bytes_eq name (codes "pmatrix") then Some (fenced_matrix (codes "(") (codes ")") group) else
    (if bytes_eq name (codes "bmatrix") then Some (fenced_matrix (codes "[") (codes "]") group) else
    (if bytes_eq name (codes "vmatrix") then Some (fenced_matrix (codes "|") (codes "|") group) else None))))
