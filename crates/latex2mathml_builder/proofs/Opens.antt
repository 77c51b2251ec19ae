-- The open elements, the uppermost first, where their parts change.
use Rattle.std.proofs.Common.{◌≡◌, ℕ, false, suc, zero, ◌+◌, ◌<◌, ◌≤◌, List, [], ◌∷◌, ◌++◌, length, append_assoc, take, drop, map, reverse, None, refl, sym, ap, ◌∙◌, arith}
use Rattle.std.proofs.lemmas.List.{drop-set, length-map, length-reverse, map-append, reverse-append, take-append-drop, take-set}
use Rattle.std.proofs.Math.{ListN.get_or, ListN.set, Seq.drop-append_seam, Seq.drop-cons, Seq.take-append_seam}
use Rattle.latex2mathml_elements.specs.{Attributes.Attributes, Element.Element, Element.is_space_like}
use Rattle.latex2mathml_builder.specs.Stacks.{given, is_space_at, token_at, token_of_element, with_attributes}

-- A list of parts, at a place

pub split_at : {A : Type 0} (ps : List A) (i : ℕ) (d : A) → i < length ps → ps ≡ take i ps ++ (get_or ps i d ∷ drop (suc i) ps)
split_at ps i d h = sym (take-append-drop i ps) ∙ ap (λ l. take i ps ++ l) (drop-cons ps i d h)

pub set_split : {A : Type 0} (ps : List A) (i : ℕ) (q : A) → i < length ps → set ps i q ≡ take i ps ++ (q ∷ drop (suc i) ps)
set_split ps i q h =
    let next : i + 1 ≡ suc i = omega arith in
    sym (take-append-drop i (set ps i q)) ∙ ap (λ l. l ++ drop i (set ps i q)) (take-set ps i q) ∙ ap (λ l. take i ps ++ l) (drop-set ps i q h)
    ∙ ap (λ n. take i ps ++ (q ∷ drop n ps)) next

module _ {A : Type 0} (f : A → Element) where
  -- the elements, the last one first
  abbrev pub stacked : List A → List Element
  stacked ps = reverse (map f ps)

  pub stacked-append : (ps qs : List A) → stacked (ps ++ qs) ≡ stacked qs ++ stacked ps
  stacked-append ps qs = ap reverse (map-append f ps qs) ∙ reverse-append (map f ps) (map f qs)

  pub stacked-push : (ps : List A) (p : A) → stacked (ps ++ p ∷ []) ≡ f p ∷ stacked ps
  stacked-push ps p = stacked-append ps (p ∷ [])

  pub stacked-length : (ps : List A) → length (stacked ps) ≡ length ps
  stacked-length ps = length-reverse (map f ps) ∙ length-map ps f

  pub stacked-split : (ps qs : List A) (p : A) → stacked (ps ++ (p ∷ qs)) ≡ stacked qs ++ (f p ∷ stacked ps)
  stacked-split ps qs p =
      stacked-append ps (p ∷ qs) ∙ ap (λ l. l ++ stacked ps) (stacked-append (p ∷ []) qs) ∙ append_assoc (stacked qs) (f p ∷ []) (stacked ps)

  -- the uppermost ones, and those below
  pub stacked-take : (ps qs : List A) → take (length qs) (stacked (ps ++ qs)) ≡ stacked qs
  stacked-take ps qs =
      ap (take (length qs)) (stacked-append ps qs) ∙ ap (λ n. take n (stacked qs ++ stacked ps)) (sym (stacked-length qs)) ∙ take-append_seam (stacked qs) (stacked ps)

  pub stacked-drop : (ps qs : List A) → drop (length qs) (stacked (ps ++ qs)) ≡ stacked ps
  stacked-drop ps qs =
      ap (drop (length qs)) (stacked-append ps qs) ∙ ap (λ n. drop n (stacked qs ++ stacked ps)) (sym (stacked-length qs)) ∙ drop-append_seam (stacked qs) (stacked ps)

-- An element below others

pub token_at_split : (xs ys : List Element) (x : Element) → token_at (length xs) (xs ++ (x ∷ ys)) ≡ token_of_element x
token_at_split [] ys x = refl
token_at_split (z ∷ xs) ys x = token_at_split xs ys x

pub given_split : (a : Attributes) (xs ys : List Element) (x : Element) → given (length xs) a (xs ++ (x ∷ ys)) ≡ xs ++ (with_attributes a x ∷ ys)
given_split a [] ys x = refl
given_split a (z ∷ xs) ys x = ap (λ l. z ∷ l) (given_split a xs ys x)

-- whether the element that follows `depth` others is space
pub space_there : (depth : ℕ) (xs rest : List Element) (x : Element) → drop depth xs ≡ x ∷ rest → is_space_at depth xs ≡ is_space_like x
space_there zero [] rest x h = cc
space_there (suc depth) [] rest x h = cc
space_there zero (y ∷ xs) rest x h = (let same : y ≡ x = cc in ap is_space_like same)
space_there (suc depth) (y ∷ xs) rest x h = space_there depth xs rest x h

pub no_space_there : (depth : ℕ) (xs : List Element) → length xs ≤ depth → is_space_at depth xs ≡ false
no_space_there depth [] h = refl
no_space_there zero (x ∷ xs) h = absurd (omega arith)
no_space_there (suc depth) (x ∷ xs) h = no_space_there depth xs (omega arith)

-- no element has `depth` others above it
pub none_at : (depth : ℕ) (xs : List Element) → length xs ≤ depth → token_at depth xs ≡ None
none_at depth [] h = refl
none_at zero (x ∷ xs) h = absurd (omega arith)
none_at (suc depth) (x ∷ xs) h = none_at depth xs (omega arith)

pub none_given : (depth : ℕ) (a : Attributes) (xs : List Element) → length xs ≤ depth → given depth a xs ≡ xs
none_given depth a [] h = refl
none_given zero a (x ∷ xs) h = absurd (omega arith)
none_given (suc depth) a (x ∷ xs) h = ap (λ l. x ∷ l) (none_given depth a xs (omega arith))
