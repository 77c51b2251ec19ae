-- Parts that are not tokens are elements without a text of their own.
use Rattle.std.proofs.Common.{◌≡◌, ℕ, Bool, true, false, List, [], ◌∷◌, Option, None, Some, option_map, refl, sym, unwrap_or}
use Rattle.latex2mathml_elements.specs.{Attributes.Attributes, Attributes.plain, Attributes.styled, Columns.Columns, Element.Element, Element.Pair, Element.Triple, Element.is_space_like}
use Rattle.latex2mathml_attributes.specs.declared.around.Around.{Around}
use Rattle.latex2mathml_builder.specs.Stacks.{around_first}
use Rattle.latex2mathml_attributes.specs.{Columns.columns_of, Names.attributes_if_any, Names.attributes_of, Names.math_style_of, Names.pair_of, Names.triple_of}
use Rattle.latex2mathml_builder.specs.Stacks.{pair_with, table_with, token_of_element, triple_with, with_attributes}
use Rattle.latex2mathml_attributes.specs.declared.{attributes.Attributes.Attributes as OwnAttributes, tag.Token.Token}
use Rattle.latex2mathml_attributes.specs.declared.tag.Token.TheVariants as tag
use Rattle.latex2mathml_builder.specs.Built.{element_of, is_space_part}
use Rattle.latex2mathml_builder.specs.declared.part.Part.{Part}
use Rattle.latex2mathml_builder.specs.declared.part.Part.TheVariants as part
use Rattle.latex2mathml_builder.proofs.Sound.{element}

abbrev HasNoText : Element → Type 0
HasNoText x = (token_of_element x ≡ None) × ((b : Attributes) → x ≡ with_attributes b x)

pair_has_none : (p : Pair) (a : Attributes) (xs : List Element) → HasNoText (pair_with p a xs)
pair_has_none p a [] = (refl, λ b. refl)
pair_has_none p a (x ∷ []) = (refl, λ b. refl)
pair_has_none p a (x ∷ y ∷ xs) = (refl, λ b. refl)

triple_has_none : (t : Triple) (a : Attributes) (is_exchanged : Bool) (xs : List Element) → HasNoText (triple_with t a is_exchanged xs)
triple_has_none t a false [] = (refl, λ b. refl)
triple_has_none t a true [] = (refl, λ b. refl)
triple_has_none t a false (x ∷ []) = (refl, λ b. refl)
triple_has_none t a true (x ∷ []) = (refl, λ b. refl)
triple_has_none t a false (x ∷ y ∷ []) = (refl, λ b. refl)
triple_has_none t a true (x ∷ y ∷ []) = (refl, λ b. refl)
triple_has_none t a false (x ∷ y ∷ z ∷ xs) = (refl, λ b. refl)
triple_has_none t a true (x ∷ y ∷ z ∷ xs) = (refl, λ b. refl)

around_has_none : (a : Around) (xs : List Element) → HasNoText (around_first a xs)
around_has_none a [] = (refl, λ b. refl)
around_has_none a (x ∷ xs) = (refl, λ b. refl)

table_has_none : (a : Attributes) (columns : Columns) (xs : List Element) → HasNoText (table_with a columns xs)
table_has_none a columns [] = (refl, λ b. refl)
table_has_none a columns (x ∷ xs) = (refl, λ b. refl)

pub has_none : (texts : List ℕ) (settled : List Part) (p : Part) → ((t : Token) (a : Option OwnAttributes) (start end : ℕ) → p ≡ part.Token t a start end → ⊥) → HasNoText (element texts settled p)
has_none texts settled (part.Token t a start end) h = absurd (h t a start end refl)
has_none texts settled (part.Space width) h = (refl, λ b. refl)
has_none texts settled (part.Rectangle e) h = (refl, λ b. refl)
has_none texts settled (part.Around a first) h = around_has_none a _
has_none texts settled (part.Container c a first count) h = (refl, λ b. refl)
has_none texts settled (part.Pair p a first) h = pair_has_none (pair_of p) (attributes_if_any a) _
has_none texts settled (part.Triple t a first is_exchanged) h = triple_has_none (triple_of t) (attributes_if_any a) is_exchanged _
has_none texts settled (part.Table own columns first count) h = table_has_none (styled (option_map math_style_of own)) (columns_of columns) _

-- the attributes of a part are those that stand for its own, or none
pub some_attributes : (o : Option OwnAttributes) (none : OwnAttributes) → attributes_of none ≡ plain → attributes_if_any o ≡ attributes_of (unwrap_or o none)
some_attributes None none h = sym h
some_attributes (Some a) none h = refl

-- What MathML takes as space

pair_no_space : (p : Pair) (a : Attributes) (xs : List Element) → is_space_like (pair_with p a xs) ≡ false
pair_no_space p a [] = refl
pair_no_space p a (x ∷ []) = refl
pair_no_space p a (x ∷ y ∷ xs) = refl

triple_no_space : (t : Triple) (a : Attributes) (is_exchanged : Bool) (xs : List Element) → is_space_like (triple_with t a is_exchanged xs) ≡ false
triple_no_space t a false [] = refl
triple_no_space t a true [] = refl
triple_no_space t a false (x ∷ []) = refl
triple_no_space t a true (x ∷ []) = refl
triple_no_space t a false (x ∷ y ∷ []) = refl
triple_no_space t a true (x ∷ y ∷ []) = refl
triple_no_space t a false (x ∷ y ∷ z ∷ xs) = refl
triple_no_space t a true (x ∷ y ∷ z ∷ xs) = refl

around_no_space : (a : Around) (xs : List Element) → is_space_like (around_first a xs) ≡ false
around_no_space a [] = refl
around_no_space a (x ∷ xs) = refl

table_no_space : (a : Attributes) (columns : Columns) (xs : List Element) → is_space_like (table_with a columns xs) ≡ false
table_no_space a columns [] = refl
table_no_space a columns (x ∷ xs) = refl

pub space_part : (texts : List ℕ) (xs : List Element) (p : Part) → is_space_like (element_of texts xs p) ≡ is_space_part p
space_part texts xs (part.Token tag.Mi a start end) = refl
space_part texts xs (part.Token tag.Mn a start end) = refl
space_part texts xs (part.Token tag.Mo a start end) = refl
space_part texts xs (part.Token tag.Mtext a start end) = refl
space_part texts xs (part.Space width) = refl
space_part texts xs (part.Rectangle e) = refl
space_part texts xs (part.Around a first) = around_no_space a _
space_part texts xs (part.Container c a first count) = refl
space_part texts xs (part.Pair p a first) = pair_no_space (pair_of p) (attributes_if_any a) _
space_part texts xs (part.Triple t a first is_exchanged) = triple_no_space (triple_of t) (attributes_if_any a) is_exchanged _
space_part texts xs (part.Table own columns first count) = table_no_space (styled (option_map math_style_of own)) (columns_of columns) _
