-- A space below the uppermost element, and an exchange of two parts.
use Rattle.std.proofs.Common.{◌≡◌, ℕ, suc, ℤ, ◌-◌, ◌<◌, List, [], ◌∷◌, ◌++◌, length, length-append, take, drop, refl, sym, ap, ◌∙◌, arith, subst}
use Rattle.std.specs.List.{swap}
use Rattle.std.proofs.lemmas.List.{take-append-le}
use Rattle.std.proofs.lemmas.List.Edits.{swap_is}
use Rattle.std.proofs.Math.{ListN.get_or, ListN.set, Seq.drop-append_seam}
use Rattle.latex2mathml_elements.specs.{Element.space}
use Rattle.latex2mathml_builder.specs.Built.{Adjoin, AllFit, IsSound, Meets}
use Rattle.latex2mathml_builder.specs.declared.part.Part.{Part}
use Rattle.latex2mathml_builder.specs.declared.part.Part.TheVariants as part
use Rattle.latex2mathml_builder.proofs.Opens.{set_split, stacked-append}
use Rattle.latex2mathml_builder.proofs.Parts.{all_append, all_left, all_right, meets_no_token}
use Rattle.latex2mathml_builder.proofs.Sound.{element, elements, last_split}

-- A space

module _ (texts : List ℕ) (settled stack : List Part) (p : Part) (width : ℤ) (some : 0 < length stack) (is : p ≡ get_or stack (length stack - 1) p) where
  abbrev base : List Part
  base = take (length stack - 1) stack

  was : stack ≡ base ++ (p ∷ [])
  was = last_split stack p some ∙ ap (λ q. base ++ (q ∷ [])) (sym is)

  becomes : set (stack ++ p ∷ []) (length stack - 1) (part.Space width) ≡ base ++ (part.Space width ∷ p ∷ [])
  becomes =
      let top : suc (length stack - 1) ≡ length stack = omega arith in
      set_split (stack ++ p ∷ []) (length stack - 1) (part.Space width) (omega (arith, length-append stack (p ∷ [])))
      ∙ ap (λ l. l ++ (part.Space width ∷ drop (suc (length stack - 1)) (stack ++ p ∷ []))) (take-append-le (length stack - 1) stack (p ∷ []) (omega arith))
      ∙ ap (λ l. base ++ (part.Space width ∷ l)) (ap (λ n. drop n (stack ++ p ∷ [])) top ∙ drop-append_seam stack (p ∷ []))

  adjoin_below : (n : ℕ) (ps : List Part) (q : Part) → Adjoin n (ps ++ q ∷ []) → Adjoin n (ps ++ (part.Space width ∷ q ∷ []))
  adjoin_below n [] q s = (meets_any q, s)
    where
      meets_any : (q : Part) → Meets (part.Space width) q
      meets_any q = tt
  adjoin_below n (o ∷ []) q s = (meets_no_token o (part.Space width) refl, (tt, s.1))
  adjoin_below n (o ∷ r ∷ ps) q s = (s.0, adjoin_below n (r ∷ ps) q s.1)

  pub sound_space_below : IsSound texts settled stack → IsSound texts settled (set (stack ++ p ∷ []) (length stack - 1) (part.Space width))
  sound_space_below s =
      let whole = subst (AllFit texts (length settled)) was s.open_fit in
      subst (IsSound texts settled) (sym becomes) (record {
        settled_fit = s.settled_fit;
        open_fit = all_append texts (length settled) base (part.Space width ∷ p ∷ []) (all_left texts (length settled) base (p ∷ []) whole) (tt, ((all_right texts (length settled) base (p ∷ []) whole).0, tt));
        adjoin = adjoin_below (length texts) base p (subst (Adjoin (length texts)) was s.adjoin);
      })

  pub elements_space_below : elements texts settled (set (stack ++ p ∷ []) (length stack - 1) (part.Space width)) ≡ take 1 (elements texts settled stack) ++ (space width ∷ drop 1 (elements texts settled stack))
  elements_space_below =
      ap (elements texts settled) becomes
      ∙ stacked-append (element texts settled) base (part.Space width ∷ p ∷ [])
      ∙ sym (ap (λ l. take 1 l ++ (space width ∷ drop 1 l)) (ap (elements texts settled) was ∙ stacked-append (element texts settled) base (p ∷ [])))

-- Two settled parts exchanged

placed : {A : Type 0} (base rest : List A) (x y d : A) → set (set (base ++ (x ∷ y ∷ rest)) (length base) (get_or (base ++ (x ∷ y ∷ rest)) (suc (length base)) d)) (suc (length base)) (get_or (base ++ (x ∷ y ∷ rest)) (length base) d) ≡ base ++ (y ∷ x ∷ rest)
placed [] rest x y d = refl
placed (b ∷ base) rest x y d = ap (λ l. b ∷ l) (placed base rest x y d)

pub swapped : {A : Type 0} (base rest : List A) (x y : A) → swap (base ++ (x ∷ y ∷ rest)) (length base) (suc (length base)) ≡ base ++ (y ∷ x ∷ rest)
swapped base rest x y =
    sym (swap_is (base ++ (x ∷ y ∷ rest)) (length base) (suc (length base)) x (omega (arith, length-append base (x ∷ y ∷ rest))) (omega (arith, length-append base (x ∷ y ∷ rest))))
    ∙ placed base rest x y x
