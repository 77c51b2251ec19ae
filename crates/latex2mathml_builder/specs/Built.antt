-- The elements of a builder: those of its parts.
use Rattle.std.specs.Prelude.{◌≡◌, ℕ, suc, ◌+◌, ◌-◌, ◌<◌, ◌≤◌, Bool, true, false, ⊤, List, [], ◌∷◌, ◌++◌, drop, length, map, option_map, reverse, take}
use Rattle.std.specs.Str.{IsUtf8}
use Rattle.latex2mathml_elements.specs.Attributes.{styled}
use Rattle.latex2mathml_elements.specs.Element.{Element, token, space, rectangle, container, children}
use Rattle.latex2mathml_builder.specs.Stacks.{around_first}
use Rattle.latex2mathml_attributes.specs.{Arounds.extent_of, Columns.columns_of}
use Rattle.latex2mathml_attributes.specs.Names.{attributes_if_any, container_of, math_style_of, pair_of, token_of, triple_of}
use Rattle.latex2mathml_builder.specs.Stacks.{pair_with, table_with, triple_with}
use Rattle.latex2mathml_attributes.specs.declared.tag.Token.TheVariants as tag
use Rattle.latex2mathml_builder.specs.declared.part.Part.{Part}
use Rattle.latex2mathml_builder.specs.declared.part.Part.TheVariants as part

-- a part of a text
abbrev pub between : ℕ → ℕ → List ℕ → List ℕ
between start end text = take (end - start) (drop start text)

-- the element of a part, whose children are among these elements
abbrev pub element_of : List ℕ → List Element → Part → Element
element_of texts xs (part.Token t a start end) = token (token_of t) (attributes_if_any a) (between start end texts)
element_of texts xs (part.Space width) = space width
element_of texts xs (part.Rectangle e) = rectangle (extent_of e)
element_of texts xs (part.Around a first) = around_first a (take 1 (drop first xs))
element_of texts xs (part.Container c a first count) = container (container_of c) (attributes_if_any a) (children (take count (drop first xs)))
element_of texts xs (part.Pair p a first) = pair_with (pair_of p) (attributes_if_any a) (take 2 (drop first xs))
element_of texts xs (part.Triple t a first is_exchanged) = triple_with (triple_of t) (attributes_if_any a) is_exchanged (take 3 (drop first xs))
element_of texts xs (part.Table own columns first count) = table_with (styled (option_map math_style_of own)) (columns_of columns) (take count (drop first xs))

-- these elements, followed by those of the parts, each of whose children are among the elements before it
abbrev pub settled_on : List ℕ → List Element → List Part → List Element
settled_on texts xs [] = xs
settled_on texts xs (p ∷ ps) = settled_on texts (xs ++ element_of texts xs p ∷ []) ps

-- the text can be cut here
unfoldable pub IsCut : List ℕ → ℕ → Type 0
IsCut text n = (n ≤ length text) × IsUtf8 (take n text)

abbrev pub HasText : List ℕ → ℕ → ℕ → Type 0
HasText texts start end = (start ≤ end) × (IsCut texts start × IsCut texts end)

-- the text of the part is one of these texts, and its children are among the first `n` elements
abbrev pub Fits : List ℕ → ℕ → Part → Type 0
Fits texts n (part.Token t a start end) = HasText texts start end
Fits texts n (part.Space width) = ⊤
Fits texts n (part.Rectangle e) = ⊤
Fits texts n (part.Around a first) = first + 1 ≤ n
Fits texts n (part.Container c a first count) = first + count ≤ n
Fits texts n (part.Pair p a first) = first + 2 ≤ n
Fits texts n (part.Triple t a first is_exchanged) = first + 3 ≤ n
Fits texts n (part.Table own columns first count) = (0 < count) × (first + count ≤ n)

abbrev pub AllFit : List ℕ → ℕ → List Part → Type 0
AllFit texts n [] = ⊤
AllFit texts n (p ∷ ps) = Fits texts n p × AllFit texts n ps

-- each part fits among the elements before it, where the first has `n` before it
abbrev pub EachFits : List ℕ → ℕ → List Part → Type 0
EachFits texts n [] = ⊤
EachFits texts n (p ∷ ps) = Fits texts n p × EachFits texts (suc n) ps

abbrev pub is_token_part : Part → Bool
is_token_part (part.Token t a start end) = true
is_token_part p = false

-- whether MathML takes the element of the part as space
abbrev pub is_space_part : Part → Bool
is_space_part (part.Token tag.Mtext a start end) = true
is_space_part (part.Space width) = true
is_space_part (part.Rectangle e) = true
is_space_part p = false

-- the text of the part ends at this place, if it has one
abbrev pub EndsAt : ℕ → Part → Type 0
EndsAt n (part.Token t a start end) = end ≡ n
EndsAt n p = ⊤

-- the text of a part ends where that of another begins, if both have one
abbrev pub Meets : Part → Part → Type 0
Meets (part.Token t a start end) (part.Token u b from to) = end ≡ from
Meets p q = ⊤

-- each part meets the next one, and the last text ends at this place
abbrev pub Adjoin : ℕ → List Part → Type 0
Adjoin n [] = ⊤
Adjoin n (p ∷ []) = EndsAt n p
Adjoin n (p ∷ q ∷ ps) = Meets p q × Adjoin n (q ∷ ps)

-- The parts are those of elements. The texts of open elements are next to each other, the last one at the end of all texts.
-- So the uppermost one can become longer, and two can become one.
pub record IsSound (texts : List ℕ) (settled stack : List Part) : Type 0 where
  pub settled_fit : EachFits texts 0 settled
  pub open_fit : AllFit texts (length settled) stack
  pub adjoin : Adjoin (length texts) stack

-- what a builder holds
pub record Built : Type 0 where
  pub texts : List ℕ
  pub settled : List Part
  pub stack : List Part

-- an empty builder
abbrev pub nothing : Built
nothing = record { texts = []; settled = []; stack = [] }

-- the settled elements
abbrev pub settled_in : Built → List Element
settled_in b = settled_on b.texts [] b.settled

-- the open elements, the uppermost first
abbrev pub elements_in : Built → List Element
elements_in b = reverse (map (element_of b.texts (settled_in b)) b.stack)

-- the `count` uppermost elements, the lowest first
abbrev pub uppermost : ℕ → Built → List Element
uppermost count b = reverse (take count (elements_in b))

-- the element of a part of this builder
abbrev pub element_in : Built → Part → Element
element_in b p = element_of b.texts (settled_in b) p

-- one more open element is pushed on the others
abbrev pub Puts : Element → Built → Built → Type 0
Puts x old new = elements_in new ≡ x ∷ elements_in old

-- one element replaces the `count` uppermost ones, and is made of them, the lowest of them first
abbrev pub Replaces : ℕ → (List Element → Element) → Built → Built → Type 0
Replaces count make old new = elements_in new ≡ make (uppermost count old) ∷ drop count (elements_in old)
