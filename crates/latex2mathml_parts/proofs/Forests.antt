-- The trees of a list of parts: where they are, and what they become when a part is put or changed.
use Rattle.std.proofs.Common.{◌≡◌, ℕ, ◌+◌, ◌-◌, ◌<◌, ◌≤◌, List, [], ◌∷◌, ◌++◌, length, length-append, take, drop, slice_index_or, slice_set, suc, zero, refl, sym, ap, ◌∙◌, arith, subst, ◌⊎◌, inl, inr}
use Rattle.std.proofs.lemmas.List.{get_or-take, length-set, length-take-le, take-append-le, take-take}
use Rattle.std.proofs.{lemmas.Grind.take-set_at, Math.Seq.take-suc, Math.Seq.take-length, Math.Seq.get_or-append_seam}
use Rattle.std.proofs.{Math.Nat.eq-or-lt_of_le, Math.ListN.get_or-append}
use Rattle.latex2mathml_trees.specs.Tree.{Tree, function, undefined, words}
use Rattle.latex2mathml_parts.specs.Forests.{AreWhole, Stands, forest, forest_on}
use Rattle.latex2mathml_parts.specs.{Forms.HasText, Forms.arity_of, Forms.put_form, declared.form.Form.Form, declared.form.Part.Part}
use Rattle.latex2mathml_parts.specs.declared.form.Form.TheVariants as form
use Rattle.latex2mathml_parts.proofs.Puts.{form_length}

pub forest_on-append : (texts : List (List ℕ)) (ts : List Tree) (ps qs : List Part) → forest_on texts ts (ps ++ qs) ≡ forest_on texts (forest_on texts ts ps) qs
forest_on-append texts ts [] qs = refl
forest_on-append texts ts (p ∷ ps) qs = forest_on-append texts (put_form texts p.form ts) ps qs

-- the forest of one more part
pub forest_more : (texts : List (List ℕ)) (ps : List Part) (n : ℕ) (d : Part) → n < length ps → forest texts (take (suc n) ps) ≡ put_form texts (slice_index_or ps n d).form (forest texts (take n ps))
forest_more texts ps n d h = ap (forest texts) (take-suc ps n d h) ∙ forest_on-append texts [] (take n ps) (slice_index_or ps n d ∷ [])

pub forest_pushed : (texts : List (List ℕ)) (ps : List Part) (p : Part) → forest texts (ps ++ p ∷ []) ≡ put_form texts p.form (forest texts ps)
forest_pushed texts ps p = forest_on-append texts [] ps (p ∷ [])

same_forest : (texts : List (List ℕ)) (ps : List Part) (p : Part) (n : ℕ) → n ≤ length ps → forest texts (take n (ps ++ p ∷ [])) ≡ forest texts (take n ps)
same_forest texts ps p n h = ap (forest texts) (take-append-le n ps (p ∷ []) h)

-- a part is where it was, if the trees before it are the same
stands_among : (texts us : List (List ℕ)) (ps qs : List Part) (n : ℕ) (p : Part) → HasText us p.form → ((m : ℕ) → m ≤ n → forest us (take m qs) ≡ forest texts (take m ps)) → Stands texts ps n p → Stands us qs n p
stands_among texts us ps qs n p h same s = record {
  text = h;
  fits = rw (same n (omega arith)) s.fits;
  some = s.some;
  within = s.within;
  below = let z = s.some in same (n + 1 - p.size) (omega arith) ∙ s.below ∙ ap (drop (arity_of p.form)) (sym (same n (omega arith)));
}

-- the new part
stands_last : (texts : List (List ℕ)) (ps : List Part) (p : Part) (start : ℕ) → HasText texts p.form → arity_of p.form ≤ length (forest texts ps) → start ≤ length ps → p.size ≡ length ps - start + 1 → forest texts (take start ps) ≡ drop (arity_of p.form) (forest texts ps) → Stands texts (ps ++ p ∷ []) (length ps) p
stands_last texts ps p start x a s z t =
    let whole : forest texts (take (length ps) (ps ++ p ∷ [])) ≡ forest texts ps = same_forest texts ps p (length ps) (omega arith) ∙ ap (forest texts) (take-length ps) in
    let from : length ps + 1 - p.size ≡ start = omega arith in
    record {
      text = x;
      fits = subst (λ ts. arity_of p.form ≤ length ts) (sym whole) a;
      some = omega arith;
      within = omega arith;
      below = ap (λ n. forest texts (take n (ps ++ p ∷ []))) from ∙ same_forest texts ps p start s ∙ t ∙ ap (drop (arity_of p.form)) (sym whole);
    }

-- a part is put after its operands
pub whole_pushed : (texts : List (List ℕ)) (ps : List Part) (p : Part) (start : ℕ) → AreWhole texts ps → HasText texts p.form → arity_of p.form ≤ length (forest texts ps) → start ≤ length ps → p.size ≡ length ps - start + 1 → forest texts (take start ps) ≡ drop (arity_of p.form) (forest texts ps) → AreWhole texts (ps ++ p ∷ [])
unfolding AreWhole
whole_pushed texts ps p start w x a s z t n d h = at (eq-or-lt_of_le {n = n} {m = length ps} (let k = length-append ps (p ∷ []) in omega arith))
  where
    at : (n ≡ length ps) ⊎ (n < length ps) → Stands texts (ps ++ p ∷ []) n (slice_index_or (ps ++ p ∷ []) n d)
    at (inl e) = subst (λ m. Stands texts (ps ++ p ∷ []) m (slice_index_or (ps ++ p ∷ []) m d)) (sym e) (subst (Stands texts (ps ++ p ∷ []) (length ps)) (sym (get_or-append_seam ps p [] d)) (stands_last texts ps p start x a s z t))
    at (inr k) = subst (Stands texts (ps ++ p ∷ []) n) (sym (get_or-append ps (p ∷ []) d n k)) (stands_among texts texts ps (ps ++ p ∷ []) n _ (w n d k).text (λ m i. same_forest texts ps p m (omega arith)) (w n d k))

-- the first parts of a whole list
pub whole_taken : (texts : List (List ℕ)) (ps : List Part) (n : ℕ) → n ≤ length ps → AreWhole texts ps → AreWhole texts (take n ps)
unfolding AreWhole
whole_taken texts ps n h w m d i =
    let k : length (take n ps) ≡ n = length-take-le n ps h in
    let s = w m d (omega arith) in
    rw (get_or-take n ps m d (omega arith))
    (stands_among texts texts ps (take n ps) m _ s.text (λ a b. ap (forest texts) (take-take a n ps (omega arith))) s)

-- there are no more trees than parts
pub forest_length_on : (texts : List (List ℕ)) (ps : List Part) (ts : List Tree) → length (forest_on texts ts ps) ≤ length ts + length ps
forest_length_on texts [] ts = omega arith
forest_length_on texts (p ∷ ps) ts = omega (arith, forest_length_on texts ps (put_form texts p.form ts), form_length texts p.form ts)

pub forest_length : (texts : List (List ℕ)) (ps : List Part) → length (forest texts ps) ≤ length ps
forest_length texts ps = omega (arith, forest_length_on texts ps [])

-- another part in place of the last
pub whole_replaced : (texts : List (List ℕ)) (ps qs : List Part) (q : Part) → 0 < length ps → AreWhole texts ps → Stands texts ps (length ps - 1) q → qs ≡ take (length ps - 1) ps ++ q ∷ [] → AreWhole texts qs
whole_replaced texts ps qs q h w s e =
    let n = length ps - 1 in
    let k : length (take n ps) ≡ n = length-take-le n ps (omega arith) in
    let below : (m : ℕ) → m ≤ n → forest texts (take m (take n ps)) ≡ forest texts (take m ps) = λ m i. ap (forest texts) (take-take m n ps i) in
    let i = s.some in
    let j = s.within in
    subst (AreWhole texts) (sym e)
    (whole_pushed texts (take n ps) q (n + 1 - q.size) (whole_taken texts ps n (omega arith) w) s.text s.fits
    (omega arith) (omega arith) (below (n + 1 - q.size) (omega arith) ∙ s.below))

pub last_set : (ps : List Part) (q : Part) → 0 < length ps → slice_set ps (length ps - 1) q ≡ take (length ps - 1) ps ++ q ∷ []
last_set ps q h =
    let qs = slice_set ps (length ps - 1) q in
    sym (take-length qs) ∙ ap (λ n. take n qs) (length-set ps (length ps - 1) q) ∙ take-set_at ps (length ps - 1) (length ps) q (omega arith) (omega arith)

-- one more text is set aside
form_kept : (texts : List (List ℕ)) (t : List ℕ) (f : Form) (ts : List Tree) → HasText texts f → put_form (texts ++ t ∷ []) f ts ≡ put_form texts f ts
form_kept texts t (form.Name place) ts h = ap (λ l. function l ∷ ts) (get_or-append texts (t ∷ []) [] place h)
form_kept texts t (form.Words place) ts h = ap (λ l. words l ∷ ts) (get_or-append texts (t ∷ []) [] place h)
form_kept texts t (form.Undefined place) ts h = ap (λ l. undefined l ∷ ts) (get_or-append texts (t ∷ []) [] place h)
form_kept texts t f ts h = refl

text_kept : (texts : List (List ℕ)) (t : List ℕ) (f : Form) → HasText texts f → HasText (texts ++ t ∷ []) f
text_kept texts t (form.Name place) h = omega (arith, length-append texts (t ∷ []), h)
text_kept texts t (form.Words place) h = omega (arith, length-append texts (t ∷ []), h)
text_kept texts t (form.Undefined place) h = omega (arith, length-append texts (t ∷ []), h)
text_kept texts t f h = tt

forest_kept : (texts : List (List ℕ)) (t : List ℕ) (ps : List Part) (d : Part) (n : ℕ) → n ≤ length ps → AreWhole texts ps → forest (texts ++ t ∷ []) (take n ps) ≡ forest texts (take n ps)
unfolding AreWhole
forest_kept texts t ps d zero h w = refl
forest_kept texts t ps d (suc n) h w =
    let q = slice_index_or ps n d in
    forest_more (texts ++ t ∷ []) ps n d (omega arith)
    ∙ ap (put_form (texts ++ t ∷ []) q.form) (forest_kept texts t ps d n (omega arith) w)
    ∙ form_kept texts t q.form (forest texts (take n ps)) (w n d (omega arith)).text
    ∙ sym (forest_more texts ps n d (omega arith))

pub forest_aside : (texts : List (List ℕ)) (t : List ℕ) (ps : List Part) → AreWhole texts ps → forest (texts ++ t ∷ []) ps ≡ forest texts ps
forest_aside texts t ps w =
    let all = take-length ps in
    ap (forest (texts ++ t ∷ [])) (sym all) ∙ forest_kept texts t ps (record { form = form.Slashed; size = 0 }) (length ps) (omega arith) w ∙ ap (forest texts) all

pub whole_aside : (texts : List (List ℕ)) (t : List ℕ) (ps : List Part) → AreWhole texts ps → AreWhole (texts ++ t ∷ []) ps
unfolding AreWhole
whole_aside texts t ps w n d h =
    let s = w n d h in
    stands_among texts (texts ++ t ∷ []) ps ps n _ (text_kept texts t _ s.text) (λ m i. forest_kept texts t ps d m (omega arith) w) s

-- a part of another form can be where a part is, if it has as many operands
pub stands_as : (texts : List (List ℕ)) (ps : List Part) (n : ℕ) (p : Part) (f : Form) → arity_of f ≡ arity_of p.form → ((us : List (List ℕ)) → HasText us p.form → HasText us f) → Stands texts ps n p → Stands texts ps n (record { form = f; size = p.size })
stands_as texts ps n p f a x s = record {
  text = x texts s.text;
  fits = subst (λ k. k ≤ length (forest texts (take n ps))) (sym a) s.fits;
  some = s.some;
  within = s.within;
  below = s.below ∙ ap (λ k. drop k (forest texts (take n ps))) (sym a);
}
