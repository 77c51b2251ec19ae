-- What the entries of the list of parts make of the trees before them.
use Rattle.std.specs.Prelude.{◌≡◌, ℕ, ◌<◌, List, [], ◌∷◌, Option, Some, None, true, drop, length, map, reverse, slice_index_or, suc, take}
use Rattle.std.specs.Char.{encode_utf8}
use Rattle.latex2mathml_trees.specs.{Productions.matrix_members, Productions.stretched_operator, Style.styled}
use Rattle.latex2mathml_trees.specs.Tree.{Tree, Trees, function, matrix, row, slashed, stretched, undefined, words, no_trees, more_trees, trees_of}
use Rattle.latex2mathml_tokens.specs.{Names.paren_text, declared.attribute.Variant.Variant}
use Rattle.latex2mathml_parts.specs.{Parts.arity, Parts.put, Parts.top, declared.form.Form.Form}
use Rattle.latex2mathml_parts.specs.declared.form.Form.TheVariants as form

-- a tree in a style, where there is one
abbrev pub in_style : Option Variant → Tree → Tree
in_style None x = x
in_style (Some variant) x = styled variant x

-- the last `count` trees, in a style and in the order in which they were read
abbrev pub members_of : Option Variant → ℕ → List Tree → Trees
members_of style count ts = trees_of (map (in_style style) (reverse (take count ts)))

-- how many operands a part of the list has
abbrev pub arity_of : Form → ℕ
arity_of (form.Of kind) = arity kind
arity_of form.Slashed = 1
arity_of (form.Row count style) = count
arity_of (form.Matrix count style align) = suc count
arity_of f = 0

-- the trees with a part of this form after them, where these are the texts set aside
abbrev pub put_form : List (List ℕ) → Form → List Tree → List Tree
put_form texts (form.Of kind) ts = put kind ts
put_form texts (form.Name place) ts = function (slice_index_or texts place []) ∷ ts
put_form texts (form.Words place) ts = words (slice_index_or texts place []) ∷ ts
put_form texts (form.Undefined place) ts = undefined (slice_index_or texts place []) ∷ ts
put_form texts (form.Stretched c) ts = stretched true (encode_utf8 c) ∷ ts
put_form texts (form.StretchedParen paren) ts = stretched true (paren_text paren) ∷ ts
put_form texts form.Slashed ts = slashed (top ts) ∷ drop 1 ts
put_form texts (form.Row count style) ts = row (members_of style count ts) ∷ drop count ts
put_form texts (form.Matrix count style align) ts = matrix (members_of style count ts) align ∷ drop (suc count) ts

-- the text of a part, if it has one, is set aside
abbrev pub HasText : List (List ℕ) → Form → Type 0
HasText texts (form.Name place) = place < length texts
HasText texts (form.Words place) = place < length texts
HasText texts (form.Undefined place) = place < length texts
HasText texts f = Unit {0}

-- a part of this form is not an operator that grows
abbrev pub IsNoOperator : Form → Type 0
IsNoOperator f = (texts : List (List ℕ)) (ts : List Tree) → stretched_operator (top (put_form texts f ts)) ≡ None

-- the second form is that of the grown operator
abbrev pub StretchesTo : Form → Form → Type 0
StretchesTo f grown =
    (arity_of f ≡ 0)
    × (arity_of grown ≡ 0)
    × ((texts : List (List ℕ)) → HasText texts grown)
    × ((texts : List (List ℕ)) (ts : List Tree) → (stretched_operator (top (put_form texts f ts)) ≡ Some (top (put_form texts grown ts)))
    × (put_form texts grown ts ≡ top (put_form texts grown ts) ∷ ts))

-- a part of this form is not a row, so it is the only member of a matrix
abbrev pub IsNoRow : Form → Type 0
IsNoRow f =
    (texts : List (List ℕ)) (ts : List Tree)
    → matrix_members (top (put_form texts f ts)) ≡ more_trees (top (put_form texts f ts)) no_trees

-- the last tree is given a style
abbrev pub restyled : Variant → List Tree → List Tree
restyled variant ts = styled variant (top ts) ∷ drop 1 ts
