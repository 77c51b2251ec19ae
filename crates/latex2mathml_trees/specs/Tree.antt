-- Trees of formulas: the values that nodes represent. A text is its bytes, and a character its code point.
use Rattle.std.specs.Prelude.{ℕ, ℤ, Bool, List, [], ◌∷◌, Option, Some, None}
use Rattle.latex2mathml_tokens.specs.{declared.DisplayStyle.DisplayStyle, declared.attribute.Variant.Variant}
use Rattle.latex2mathml_tokens.specs.{declared.attribute.Accent.Accent, declared.attribute.LineThickness.LineThickness}
use Rattle.latex2mathml_tokens.specs.declared.attribute.ColumnAlign.{ColumnAlign}

mutual
  pub data Tree : Type 0 where
    number : List ℕ → Tree
    letter : ℕ → Variant → Tree
    operator : ℕ → Tree
    -- the name of a function, alone and with its argument
    function : List ℕ → Tree
    applied : List ℕ → Tree → Tree
    -- in eighteenths of an em
    space : ℤ → Tree
    -- the base, and then the script
    subscript : Tree → Tree → Tree
    superscript : Tree → Tree → Tree
    sub_sup : Tree → Tree → Tree → Tree
    over_op : ℕ → Accent → Tree → Tree
    under_op : ℕ → Accent → Tree → Tree
    -- what is over or under the base, and then the base
    overset : Tree → Tree → Tree
    underset : Tree → Tree → Tree
    -- the base, then the limit under it, then the limit over it
    under : Tree → Tree → Tree
    under_over : Tree → Tree → Tree → Tree
    -- the degree, and then the radicand
    root : Tree → Tree → Tree
    sqrt : Tree → Tree
    frac : Tree → Tree → LineThickness → Tree
    row : Trees → Tree
    -- the opening fence, the closing fence, and what is between them
    fenced : List ℕ → List ℕ → Tree → Tree
    stretched : Bool → List ℕ → Tree
    other_operator : List ℕ → Tree
    -- the size, and then the parenthesis
    sized_paren : List ℕ → List ℕ → Tree
    words : List ℕ → Tree
    matrix : Trees → ColumnAlign → Tree
    ampersand : Tree
    new_line : Tree
    slashed : Tree → Tree
    style : Option DisplayStyle → Tree → Tree
    undefined : List ℕ → Tree
    deriving Discrete as Tree-discrete

  pub data Trees : Type 0 where
    no_trees : Trees
    more_trees : Tree → Trees → Trees

-- a list of trees as the members of one tree
abbrev pub trees_of : List Tree → Trees
trees_of [] = no_trees
trees_of (x ∷ xs) = more_trees x (trees_of xs)

-- a function, whose argument may be missing
abbrev pub function_tree : List ℕ → Option Tree → Tree
function_tree name None = function name
function_tree name (Some x) = applied name x

-- a root, whose degree may be missing
abbrev pub root_tree : Option Tree → Tree → Tree
root_tree None x = sqrt x
root_tree (Some degree) x = root degree x
