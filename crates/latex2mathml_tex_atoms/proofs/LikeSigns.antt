-- A row of elements that MathML takes for a sign, element by element.
use Rattle.std.proofs.Common.{◌≡◌, ℕ, zero, suc, ◌<◌, ◌≤◌, Bool, true, false, List, [], ◌∷◌, Option, None, Some, length, drop, take, ap, arith, refl, sym, ◌∙◌}
use Rattle.latex2mathml_elements.specs.Element.{Element, Mo, Token, is_space_like, token}
use Rattle.latex2mathml_elements.specs.Attributes.{Attributes}
use Rattle.latex2mathml_attributes.specs.Names.{token_of}
use Rattle.latex2mathml_attributes.specs.declared.tag.Token.{Token as CodeToken}
use Rattle.latex2mathml_attributes.specs.declared.tag.Token.TheVariants as tag
use Rattle.latex2mathml_builder.specs.Stacks.{is_space_at, token_at, token_of_element}
use Rattle.latex2mathml_tex_grammar.specs.Rows.{are_like_sign, are_space_like, has_space, is_spaced_sign}
use Rattle.latex2mathml_tex_atoms.specs.Shapes.{is_spaced_sign_at}

-- the element below `depth` others, among the first `count`
pub record At (depth count : ℕ) (xs : List Element) : Type 0 where
  pub element : Element
  pub others : List Element
  pub here : drop depth (take count xs) ≡ element ∷ others
  pub behind : drop (suc depth) (take count xs) ≡ others
  pub sign : is_spaced_sign_at depth xs ≡ is_spaced_sign element
  pub space : is_space_at depth xs ≡ is_space_like element

pub at : (depth count : ℕ) (xs : List Element) → depth < count → count ≤ length xs → At depth count xs
at depth zero xs h k = absurd (omega (arith, h))
at depth (suc count) [] h k = absurd (omega (arith, k))
at zero (suc count) (x ∷ xs) h k = record { element = x; others = take count xs; here = refl; behind = refl; sign = refl; space = refl }
at (suc depth) (suc count) (x ∷ xs) h k =
    let a = at depth count xs (omega (arith, h)) (omega (arith, k)) in
    record { element = a.element; others = a.others; here = a.here; behind = a.behind; sign = a.sign; space = a.space }

-- whether a token is a sign with space at its sides
abbrev is_spaced_token : Option (Token × Attributes) → Bool
is_spaced_token (Some (t, a)) = is_spaced_sign (token t a [])
is_spaced_token None = false

token_spaced : (x : Element) → is_spaced_token (token_of_element x) ≡ is_spaced_sign x
token_spaced (token Mo a text) = refl
token_spaced (token t a text) = refl
token_spaced x = refl

token_at_spaced : (depth : ℕ) (xs : List Element) → is_spaced_token (token_at depth xs) ≡ is_spaced_sign_at depth xs
token_at_spaced depth [] = refl
token_at_spaced zero (x ∷ xs) = token_spaced x
token_at_spaced (suc depth) (x ∷ xs) = token_at_spaced depth xs

module _ (depth : ℕ) (xs : List Element) where
  pub no_token : token_at depth xs ≡ None → false ≡ is_spaced_sign_at depth xs
  no_token none = ap is_spaced_token (sym none) ∙ token_at_spaced depth xs

  pub is_sign_at : (a : Attributes) → token_at depth xs ≡ Some (Mo, a) → has_space a.form a.space ≡ is_spaced_sign_at depth xs
  is_sign_at a found = ap is_spaced_token (sym found) ∙ token_at_spaced depth xs

  pub no_sign_at : (t : CodeToken) (a : Attributes) → (t ≡ tag.Mo → ⊥) → token_at depth xs ≡ Some (token_of t, a) → false ≡ is_spaced_sign_at depth xs
  no_sign_at tag.Mo a other found = absurd (other refl)
  no_sign_at t a other found = ap is_spaced_token (sym found) ∙ token_at_spaced depth xs

-- whether a row is like a sign, by its elements after others, among which a sign was or not
abbrev pub like_sign_after : Bool → List Element → Bool
like_sign_after true xs = are_space_like xs
like_sign_after false xs = are_like_sign xs

pub at_end : (seen : Bool) → like_sign_after seen [] ≡ seen
at_end true = refl
at_end false = refl

spaced_no_space : (x : Element) → is_spaced_sign x ≡ true → is_space_like x ≡ false
spaced_no_space (token Mo a text) h = refl
spaced_no_space x h = cc

pub first_sign : (x : Element) (xs : List Element) → is_spaced_sign x ≡ true → like_sign_after false (x ∷ xs) ≡ like_sign_after true xs
first_sign x xs h = rw h refl

pub second_sign : (x : Element) (xs : List Element) → is_spaced_sign x ≡ true → like_sign_after true (x ∷ xs) ≡ false
second_sign x xs h = rw (spaced_no_space x h) refl

pub space_passed : (seen : Bool) (x : Element) (xs : List Element) → is_spaced_sign x ≡ false → is_space_like x ≡ true → like_sign_after seen (x ∷ xs) ≡ like_sign_after seen xs
space_passed true x xs h k = rw k refl
space_passed false x xs h k = rw (h, k) refl

pub no_space : (seen : Bool) (x : Element) (xs : List Element) → is_spaced_sign x ≡ false → is_space_like x ≡ false → like_sign_after seen (x ∷ xs) ≡ false
no_space true x xs h k = rw k refl
no_space false x xs h k = rw (h, k) refl
