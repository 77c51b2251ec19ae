-- A settled element and an open one, and those after it.
use Rattle.std.proofs.Common.{◌≡◌, ℕ, suc, ◌+◌, ◌-◌, ◌<◌, List, [], ◌∷◌, ◌++◌, length, append_assoc, append-nil, take, drop, refl, sym, ap, ◌∙◌, arith, subst}
use Rattle.std.proofs.lemmas.List.{length-take-le, length-drop}
use Rattle.std.proofs.Math.{ListN.get_or}
use Rattle.latex2mathml_elements.specs.Element.{Element}
use Rattle.latex2mathml_builder.specs.Built.{AllFit, EachFits, Fits, IsSound, element_of, settled_on}
use Rattle.latex2mathml_builder.specs.declared.part.Part.{Part}
use Rattle.latex2mathml_builder.proofs.Opens.{split_at, stacked, stacked-length, stacked-split}
use Rattle.latex2mathml_builder.proofs.Parts.{all_right, each_right, element_kept, fits_more, settled_append, settled_behind, settled_length}
use Rattle.latex2mathml_builder.proofs.Sound.{element, elements}

-- the elements from a place on, and those from the next place on
behind : {A : Type 0} (xs ys : List A) (x : A) → (drop (length xs) (xs ++ (x ∷ ys)) ≡ x ∷ ys) × (drop (suc (length xs)) (xs ++ (x ∷ ys)) ≡ ys)
behind [] ys x = (refl, refl)
behind (z ∷ xs) ys x = behind xs ys x

module _ (texts : List ℕ) (settled stack : List Part) (place : ℕ) (p : Part) (s : IsSound texts settled stack) (within : place < length settled) (is : p ≡ get_or settled place p) where
  abbrev before : List Part
  before = take place settled

  abbrev after : List Part
  after = drop (suc place) settled

  split : settled ≡ before ++ (p ∷ after)
  split = split_at settled place p within ∙ ap (λ q. before ++ (q ∷ after)) (sym is)

  before_length : length before ≡ place
  before_length = length-take-le place settled (omega arith)

  abbrev xs : List Element
  xs = settled_on texts [] before

  xs_length : length xs ≡ place
  xs_length = settled_length texts [] before ∙ omega (arith, before_length)

  abbrev x : Element
  x = element_of texts xs p

  abbrev others : (ys : List Element) × (settled_on texts (xs ++ x ∷ []) after ≡ (xs ++ x ∷ []) ++ ys)
  others = settled_behind texts (xs ++ x ∷ []) after

  all : settled_on texts [] settled ≡ xs ++ (x ∷ others.0)
  all =
      ap (settled_on texts []) split
      ∙ settled_append texts [] before (p ∷ after)
      ∙ others.1
      ∙ append_assoc xs (x ∷ []) others.0

  fits_there : Fits texts place p
  fits_there =
      subst (λ n. Fits texts n p) (omega (arith, before_length)) (each_right texts 0 before (p ∷ after) (subst (EachFits texts 0) split s.settled_fit)).0

  pub settled_fits : Fits texts (length settled) p
  settled_fits = subst (λ t. Fits t (length settled) p) (append-nil texts) (fits_more texts [] place (length settled) p (omega arith) fits_there)

  same : element texts settled p ≡ x
  same =
      ap (λ l. element_of texts l p) all
      ∙ ap (λ t. element_of t (xs ++ (x ∷ others.0)) p) (sym (append-nil texts))
      ∙ element_kept texts [] xs (x ∷ others.0) place p (omega (arith, xs_length)) fits_there

  pub settled_there : drop place (settled_on texts [] settled) ≡ element texts settled p ∷ drop (place + 1) (settled_on texts [] settled)
  settled_there =
      let here = behind xs others.0 x in
      let next : place + 1 ≡ suc (length xs) = omega (arith, xs_length) in
      ap (drop place) all
      ∙ ap (λ n. drop n (xs ++ (x ∷ others.0))) (sym xs_length)
      ∙ here.0
      ∙ ap (λ l. x ∷ l) (sym (ap (drop (place + 1)) all ∙ ap (λ n. drop n (xs ++ (x ∷ others.0))) next ∙ here.1))
      ∙ ap (λ y. y ∷ drop (place + 1) (settled_on texts [] settled)) (sym same)

module _ (texts : List ℕ) (settled stack : List Part) (place : ℕ) (p : Part) (within : place < length stack) (is : p ≡ get_or stack place p) where
  abbrev below : List Part
  below = take place stack

  abbrev above : List Part
  above = drop (suc place) stack

  open_split : stack ≡ below ++ (p ∷ above)
  open_split = split_at stack place p within ∙ ap (λ q. below ++ (q ∷ above)) (sym is)

  pub open_fits : IsSound texts settled stack → Fits texts (length settled) p
  open_fits s = (all_right texts (length settled) below (p ∷ above) (subst (AllFit texts (length settled)) open_split s.open_fit)).0

  above_length : length (stacked (element texts settled) above) ≡ length stack - (place + 1)
  above_length = stacked-length (element texts settled) above ∙ length-drop (suc place) stack ∙ omega arith

  pub open_there : drop (length stack - (place + 1)) (elements texts settled stack) ≡ element texts settled p ∷ drop (length stack - place) (elements texts settled stack)
  open_there =
      let us = stacked (element texts settled) above in
      let ls = stacked (element texts settled) below in
      let z = element texts settled p in
      let here = behind us ls z in
      let whole : elements texts settled stack ≡ us ++ (z ∷ ls) = ap (elements texts settled) open_split ∙ stacked-split (element texts settled) below above p in
      let next : length stack - place ≡ suc (length us) = omega (arith, above_length) in
      ap (drop (length stack - (place + 1))) whole
      ∙ ap (λ n. drop n (us ++ (z ∷ ls))) (sym above_length)
      ∙ here.0
      ∙ ap (λ l. z ∷ l) (sym (ap (drop (length stack - place)) whole ∙ ap (λ n. drop n (us ++ (z ∷ ls))) next ∙ here.1))
