-- What the builder's functions make of a list of elements, in which the uppermost comes first.
use Rattle.std.specs.Prelude.{ℕ, zero, suc, Bool, true, false, List, [], ◌∷◌, ◌++◌, Option, Some, None}
use Rattle.latex2mathml_elements.specs.Attributes.{Attributes, plain}
use Rattle.latex2mathml_elements.specs.Columns.{Columns}
use Rattle.latex2mathml_elements.specs.Element.{Mrow, Token, Pair, Triple, Element, token, container, pair, triple, table, children, is_space_like}
use Rattle.latex2mathml_elements.specs.{Groups.grouped, Tables.attributes_in, Tables.rows_in}
use Rattle.latex2mathml_attributes.specs.{Arounds.element_around, declared.around.Around.Around}

-- whether the uppermost element holds a text
abbrev pub is_token : List Element → Bool
is_token (token t a text ∷ xs) = true
is_token xs = false

-- more text in the uppermost element, if it holds one
abbrev pub lengthened : List ℕ → List Element → List Element
lengthened more (token t a text ∷ xs) = token t a (text ++ more) ∷ xs
lengthened more xs = xs

-- the two uppermost elements as one, without attributes, if both hold a text
abbrev pub joined : List Element → List Element
joined (token t a text ∷ token u b before ∷ xs) = token u plain (before ++ text) ∷ xs
joined xs = xs

abbrev pub are_tokens : List Element → Bool
are_tokens (token t a text ∷ token u b before ∷ xs) = true
are_tokens xs = false

-- the first two exchanged, if the flag says so
abbrev pub ordered : {A : Type 0} → Bool → List A → List A
ordered true (x ∷ y ∷ xs) = y ∷ x ∷ xs
ordered is_exchanged xs = xs

-- the name and the attributes of an element that holds a text
abbrev pub token_of_element : Element → Option (Token × Attributes)
token_of_element (token t a text) = Some (t, a)
token_of_element x = None

-- the name and the attributes of the element below `depth` others, if it holds a text
abbrev pub token_at : ℕ → List Element → Option (Token × Attributes)
token_at depth [] = None
token_at zero (x ∷ xs) = token_of_element x
token_at (suc depth) (x ∷ xs) = token_at depth xs

-- whether MathML takes the element below `depth` others as space
abbrev pub is_space_at : ℕ → List Element → Bool
is_space_at depth [] = false
is_space_at zero (x ∷ xs) = is_space_like x
is_space_at (suc depth) (x ∷ xs) = is_space_at depth xs

-- an element that holds a text, with these attributes
abbrev pub with_attributes : Attributes → Element → Element
with_attributes a (token t b text) = token t a text
with_attributes a x = x

-- these attributes given to the element below `depth` others, if it holds a text
abbrev pub given : ℕ → Attributes → List Element → List Element
given depth a [] = []
given zero a (x ∷ xs) = with_attributes a x ∷ xs
given (suc depth) a (x ∷ xs) = x ∷ given depth a xs

-- what is made of too few elements for an element of two, of three, or of one or more
abbrev pub no_element : Element
no_element = container Mrow plain (children [])

-- the element below `depth` others, as a group
abbrev pub group_at : ℕ → List Element → Element
group_at depth [] = no_element
group_at zero (x ∷ xs) = grouped x
group_at (suc depth) (x ∷ xs) = group_at depth xs

-- an element around the uppermost one
abbrev pub around_first : Around → List Element → Element
around_first a [] = no_element
around_first a (x ∷ xs) = element_around a x

abbrev pub pair_with : Pair → Attributes → List Element → Element
pair_with p a (x ∷ y ∷ xs) = pair p a x y
pair_with p a xs = no_element

abbrev pub triple_with : Triple → Attributes → Bool → List Element → Element
triple_with t a false (x ∷ y ∷ z ∷ xs) = triple t a x y z
triple_with t a true (x ∷ y ∷ z ∷ xs) = triple t a x z y
triple_with t a is_exchanged xs = no_element

abbrev pub table_with : Attributes → Columns → List Element → Element
table_with a columns [] = no_element
table_with a columns (x ∷ xs) = table (attributes_in columns a) (rows_in columns x xs)
