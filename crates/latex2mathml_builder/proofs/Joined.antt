-- Two tokens become one, and settled parts are exchanged.
use Rattle.std.proofs.Common.{Option, ◌≡◌, ℕ, zero, suc, ◌+◌, ◌-◌, ◌<◌, ◌≤◌, true, false, None, List, [], ◌∷◌, ◌++◌, length, take, drop, refl, sym, ap, ◌∙◌, arith, subst}
use Rattle.std.proofs.Math.{ListN.get_or, ListN.set, ListN.drop_of_length-le, Seq.drop-cons, Seq.drop-length, Seq.take-add, Seq.take-suc-set}
use Rattle.std.specs.List.{swap}
use Rattle.latex2mathml_elements.specs.{Attributes.plain, Element.Element, Element.token, Element.space, Element.rectangle, Element.container, Element.pair, Element.triple, Element.table}
use Rattle.latex2mathml_builder.specs.Built.{Adjoin, AllFit, HasText, IsSound, between}
use Rattle.latex2mathml_attributes.specs.Names.{attributes_if_any, token_of}
use Rattle.latex2mathml_builder.specs.Stacks.{are_tokens, joined, ordered, token_at, token_of_element}
use Rattle.latex2mathml_attributes.specs.declared.attributes.Attributes.{Attributes}
use Rattle.latex2mathml_builder.specs.declared.part.Part.{Part}
use Rattle.latex2mathml_builder.specs.declared.part.Part.TheVariants as part
use Rattle.latex2mathml_attributes.specs.declared.tag.Token.{Token}
use Rattle.latex2mathml_builder.proofs.{Below.swapped, Opens.split_at, Opens.stacked-append}
use Rattle.latex2mathml_builder.proofs.Parts.{adjoin_replaced, adjoin_right, all_append, all_left, all_right, same_before}
use Rattle.latex2mathml_builder.proofs.Sound.{element, elements}

drop_drop : (n m : ℕ) (l : List ℕ) → drop n (drop m l) ≡ drop (m + n) l
drop_drop n zero l = ap (λ k. drop k l) (omega arith)
drop_drop n (suc m) [] = drop_of_length-le [] {i = n} (omega arith) ∙ sym (drop_of_length-le [] {i = suc m + n} (omega arith))
drop_drop n (suc m) (x ∷ l) = (let more : suc (m + n) ≡ suc m + n = omega arith in drop_drop n m l ∙ ap (λ k. drop k (x ∷ l)) more)

-- a text in two parts
between_joined : (text : List ℕ) (start middle end : ℕ) → start ≤ middle → middle ≤ end → between start end text ≡ between start middle text ++ between middle end text
between_joined text start middle end h k =
    let whole : end - start ≡ (middle - start) + (end - middle) = omega arith in
    let there : start + (middle - start) ≡ middle = omega arith in
    ap (λ n. take n (drop start text)) whole
    ∙ take-add (middle - start) (end - middle) (drop start text)
    ∙ ap (λ l. take (middle - start) (drop start text) ++ take (end - middle) l) (drop_drop (middle - start) start text ∙ ap (λ n. drop n text) there)

-- the last two parts are tokens
module _ (texts : List ℕ) (settled stack : List Part) (t u : Token) (a b none : Option Attributes) (start middle from end : ℕ) (s : IsSound texts settled stack) (enough : 2 ≤ length stack) (upper : get_or stack (length stack - 1) (part.Token u b from end) ≡ part.Token u b from end) (lower : get_or stack (length stack - 2) (part.Token t a start middle) ≡ part.Token t a start middle) where
  abbrev x : Part
  x = part.Token t a start middle

  abbrev y : Part
  y = part.Token u b from end

  abbrev z : Part
  z = part.Token t none start end

  abbrev base : List Part
  base = take (length stack - 2) stack

  was : stack ≡ base ++ (x ∷ y ∷ [])
  was =
      let next : suc (length stack - 2) ≡ length stack - 1 = omega arith in
      let all : suc (length stack - 1) ≡ length stack = omega arith in
      split_at stack (length stack - 2) x (omega arith)
      ∙ ap (λ p. base ++ (p ∷ drop (suc (length stack - 2)) stack)) lower
      ∙ ap (λ n. base ++ (x ∷ drop n stack)) next
      ∙ ap (λ l. base ++ (x ∷ l)) (drop-cons stack (length stack - 1) y (omega arith) ∙ ap (λ p. p ∷ drop (suc (length stack - 1)) stack) upper ∙ ap (λ l. y ∷ l) (ap (λ n. drop n stack) all ∙ drop-length stack))

  becomes : take (length stack - 1) (set stack (length stack - 2) z) ≡ base ++ (z ∷ [])
  becomes =
      let next : length stack - 1 ≡ suc (length stack - 2) = omega arith in
      ap (λ n. take n (set stack (length stack - 2) z)) next ∙ take-suc-set stack (length stack - 2) z (omega arith)

  both : AllFit texts (length settled) (x ∷ y ∷ [])
  both = all_right texts (length settled) base (x ∷ y ∷ []) (subst (AllFit texts (length settled)) was s.open_fit)

  meet : middle ≡ from
  meet = (adjoin_right (length texts) base x (y ∷ []) (subst (Adjoin (length texts)) was s.adjoin)).0

  pub sound_joined : IsSound texts settled (take (length stack - 1) (set stack (length stack - 2) z))
  sound_joined = subst (IsSound texts settled) (sym becomes) (record {
    settled_fit = s.settled_fit;
    open_fit = all_append texts (length settled) base (z ∷ []) (all_left texts (length settled) base (x ∷ y ∷ []) (subst (AllFit texts (length settled)) was s.open_fit)) (whole, tt);
    adjoin = adjoin_replaced (length texts) (length texts) base (y ∷ []) [] x z (same_before t t a none start middle end) (λ e. e.1) (subst (Adjoin (length texts)) was s.adjoin);
  })
    where
      whole : HasText texts start end
      whole = (let h = both.0.0 in let k = both.1.0.0 in omega (arith, meet), (both.0.1.0, both.1.0.1.1))

  pub elements_joined : attributes_if_any none ≡ plain → elements texts settled (take (length stack - 1) (set stack (length stack - 2) z)) ≡ joined (elements texts settled stack)
  elements_joined e =
      ap (elements texts settled) becomes
      ∙ stacked-append (element texts settled) base (z ∷ [])
      ∙ ap (λ k. token (token_of t) k (between start end texts) ∷ elements texts settled base) e
      ∙ ap (λ l. token (token_of t) plain l ∷ elements texts settled base) (between_joined texts start middle end both.0.0 (let k = both.1.0.0 in omega (arith, meet)) ∙ ap (λ n. between start middle texts ++ between n end texts) meet)
      ∙ sym (ap joined (ap (elements texts settled) was ∙ stacked-append (element texts settled) base (x ∷ y ∷ [])))

  pub are_joined : are_tokens (elements texts settled stack) ≡ true
  are_joined = ap are_tokens (ap (elements texts settled) was ∙ stacked-append (element texts settled) base (x ∷ y ∷ []))

-- Nothing is joined if one of the two is not a token

abbrev pub Same : List Element → Type 0
Same xs = (joined xs ≡ xs) × (are_tokens xs ≡ false)

-- the uppermost one is not a token
no_upper : (x : Element) (xs : List Element) → token_of_element x ≡ None → Same (x ∷ xs)
no_upper (token t a text) xs h = cc
no_upper (space width) xs h = (refl, refl)
no_upper (rectangle e) xs h = (refl, refl)
no_upper (container c a ys) xs h = (refl, refl)
no_upper (pair p a y z) xs h = (refl, refl)
no_upper (triple t a w y z) xs h = (refl, refl)
no_upper (table a rows) xs h = (refl, refl)

-- the one below is not a token
no_lower : (x y : Element) (xs : List Element) → token_of_element y ≡ None → Same (x ∷ y ∷ xs)
no_lower (token t a text) (token u b other) xs h = cc
no_lower (token t a text) (space width) xs h = (refl, refl)
no_lower (token t a text) (rectangle e) xs h = (refl, refl)
no_lower (token t a text) (container c b ys) xs h = (refl, refl)
no_lower (token t a text) (pair p b y z) xs h = (refl, refl)
no_lower (token t a text) (triple u b w y z) xs h = (refl, refl)
no_lower (token t a text) (table b rows) xs h = (refl, refl)
no_lower (space width) y xs h = (refl, refl)
no_lower (rectangle e) y xs h = (refl, refl)
no_lower (container c a ys) y xs h = (refl, refl)
no_lower (pair p a w z) y xs h = (refl, refl)
no_lower (triple t a v w z) y xs h = (refl, refl)
no_lower (table a rows) y xs h = (refl, refl)

-- there are fewer than two
no_two : (xs : List Element) → length xs < 2 → Same xs
no_two [] h = (refl, refl)
no_two (x ∷ y ∷ xs) h = absurd (omega arith)
no_two (token t a text ∷ []) h = (refl, refl)
no_two (x ∷ []) h = alone x
  where
    alone : (x : Element) → Same (x ∷ [])
    alone (token t a text) = (refl, refl)
    alone (space width) = (refl, refl)
    alone (rectangle e) = (refl, refl)
    alone (container c a ys) = (refl, refl)
    alone (pair p a w z) = (refl, refl)
    alone (triple t a v w z) = (refl, refl)
    alone (table a rows) = (refl, refl)

pub none_joined : (xs : List Element) → token_at 0 xs ≡ None → Same xs
none_joined [] h = no_two [] (omega arith)
none_joined (x ∷ xs) h = no_upper x xs h

pub none_joined_below : (xs : List Element) → token_at 1 xs ≡ None → Same xs
none_joined_below [] h = no_two [] (omega arith)
none_joined_below (x ∷ []) h = no_two (x ∷ []) (omega arith)
none_joined_below (x ∷ y ∷ xs) h = no_lower x y xs h

-- the first two of parts exchanged
pub exchanged_behind : (ps qs : List Part) → 2 ≤ length qs → swap (ps ++ qs) (length ps) (length ps + 1) ≡ ps ++ ordered true qs
exchanged_behind ps [] h = absurd (omega arith)
exchanged_behind ps (q ∷ []) h = absurd (omega arith)
exchanged_behind ps (p ∷ q ∷ qs) h =
    let next : length ps + 1 ≡ suc (length ps) = omega arith in
    ap (swap (ps ++ (p ∷ q ∷ qs)) (length ps)) next ∙ swapped ps qs p q
