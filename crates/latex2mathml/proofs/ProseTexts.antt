-- Prose is answered unit by unit.
use Rattle.std.proofs.Common.{◌≡◌, ◌≢◌, ℕ, suc, ◌<◌, List, [], ◌∷◌, ◌++◌, drop, length, refl, sym, ap, subst, ◌∙◌, ⊎_elim, arith, append_assoc, codes, is_ok, cond, Result, Ok, Err}
use Rattle.std.specs.Prelude.{OnOk}
use Rattle.std.proofs.lemmas.Bool.Decides.{eqb_tells}
use Rattle.latex2mathml.specs.Documents.{IsWhole, nothing, single, pair, IsPlain, whole, lone, pair_answer, prose_answer}
use Rattle.latex2mathml_grammar.specs.Dollars.{dollar, backslash, IsDollarFree, free_both, free_first, free_more, free_one, free_rest, other}
use Rattle.latex2mathml.proofs.PlainTexts.{backslash_or_other, behind_pair, behind_single, more_pair, more_single, no_dollar, plain_begins}

-- the answer of text with a unit in front
answer_single : (b : ℕ) (text : List ℕ) → b ≢ backslash → prose_answer (b ∷ text) ≡ b ∷ prose_answer text
answer_single b [] m = refl
answer_single b (c ∷ text) m = ⊎_elim (λ h. absurd (m h.1)) (λ h. rw h.0 refl) (eqb_tells b backslash)

answer_pair : (b c : ℕ) (text : List ℕ) → b ≡ backslash → prose_answer (b ∷ c ∷ text) ≡ pair_answer c ++ prose_answer text
answer_pair b c text is = rw is refl

pair_other : (c : ℕ) → c ≢ dollar → pair_answer c ≡ backslash ∷ c ∷ []
pair_other c n = ⊎_elim (λ h. absurd (n h.1)) (λ h. rw h.0 refl) (eqb_tells c dollar)

answer_pair_other : (b c : ℕ) (text : List ℕ) → b ≡ backslash → c ≢ dollar → prose_answer (b ∷ c ∷ text) ≡ b ∷ c ∷ prose_answer text
answer_pair_other b c text is n =
    answer_pair b c text is ∙ ap (λ l. l ++ prose_answer text) (pair_other c n) ∙ ap (λ d. d ∷ c ∷ prose_answer text) (sym is)

-- whole units, and prose after them
pub prose_append : (t u : List ℕ) → IsWhole t → prose_answer (t ++ u) ≡ prose_answer t ++ prose_answer u
prose_append [] u nothing = refl
prose_append (b ∷ t) u (single n m w) =
    answer_single b (t ++ u) m ∙ ap (λ l. b ∷ l) (prose_append t u w) ∙ ap (λ l. l ++ prose_answer u) (sym (answer_single b t m))
prose_append (b ∷ c ∷ t) u (pair is w) =
    answer_pair b c (t ++ u) is
    ∙ ap (λ l. pair_answer c ++ l) (prose_append t u w)
    ∙ sym (append_assoc (pair_answer c) (prose_answer t) (prose_answer u))
    ∙ ap (λ l. l ++ prose_answer u) (sym (answer_pair b c t is))

-- The answer of prose holds no dollar sign.
free_pair : (c : ℕ) → IsDollarFree (pair_answer c)
free_pair c = ⊎_elim (λ h. rw h.0 refl) (λ h. rw h.0 (free_one c (other c h.1))) (eqb_tells c dollar)

free_whole : (text : List ℕ) → IsWhole text → IsDollarFree (prose_answer text)
free_whole [] nothing = refl
free_whole (b ∷ text) (single n m w) = subst IsDollarFree (sym (answer_single b text m)) (free_more b (prose_answer text) (other b n) (free_whole text w))
free_whole (b ∷ c ∷ text) (pair is w) = subst IsDollarFree (sym (answer_pair b c text is)) (free_both (pair_answer c) (prose_answer text) (free_pair c) (free_whole text w))

pub free_prose : (text : List ℕ) → IsPlain text → IsDollarFree (prose_answer text)
free_prose text (whole w) = free_whole text w
free_prose text (lone {front} w is) =
    subst (λ l. IsDollarFree (prose_answer l)) (sym is) (subst IsDollarFree (sym (prose_append front (92 ∷ []) w)) (free_both (prose_answer front) (92 ∷ []) (free_whole front w) refl))

-- Text without a dollar sign is prose that stays unchanged.
pub free_plain : (text : List ℕ) → IsDollarFree text → IsPlain text
free_plain [] h = whole nothing
free_plain (b ∷ []) h =
    ⊎_elim (λ is. lone nothing (ap (λ c. c ∷ []) is)) (λ m. whole (single (no_dollar b (free_first b [] h)) m nothing)) (backslash_or_other b)
free_plain (b ∷ c ∷ text) h =
    ⊎_elim (λ is. more_pair b c text is (free_plain text (free_rest c text (free_rest b (c ∷ text) h))))
    (λ m. more_single b (c ∷ text) (no_dollar b (free_first b (c ∷ text) h)) m (free_plain (c ∷ text) (free_rest b (c ∷ text) h))) (backslash_or_other b)

pub free_stays : (text : List ℕ) → IsDollarFree text → prose_answer text ≡ text
free_stays [] h = refl
free_stays (b ∷ []) h = refl
free_stays (b ∷ c ∷ text) h =
    let more = free_rest b (c ∷ text) h in
    ⊎_elim (λ is. answer_pair_other b c text is (no_dollar c (free_first c text more)) ∙ ap (λ l. b ∷ c ∷ l) (free_stays text (free_rest c text more)))
    (λ m. answer_single b (c ∷ text) m ∙ ap (λ l. b ∷ l) (free_stays (c ∷ text) more)) (backslash_or_other b)

-- before the place n, no backslash has a dollar sign after it
abbrev Lacks : ℕ → List ℕ → Type 0
Lacks n text = (i : ℕ) → i < n → (rest : List ℕ) → drop i text ≢ 92 ∷ 36 ∷ rest

-- text without such a backslash stays unchanged
lacks_second : (b c : ℕ) (text : List ℕ) → b ≡ backslash → ((rest : List ℕ) → b ∷ c ∷ text ≢ 92 ∷ 36 ∷ rest) → c ≢ dollar
lacks_second b c text is h q = h text (λ i. is i ∷ q i ∷ text)

stays : (text : List ℕ) → Lacks (length text) text → prose_answer text ≡ text
stays [] h = refl
stays (b ∷ []) h = refl
stays (b ∷ c ∷ text) h =
    ⊎_elim (λ is. answer_pair_other b c text is (lacks_second b c text is (h 0 (omega arith))) ∙ ap (λ l. b ∷ c ∷ l) (stays text (λ i lt. h (suc (suc i)) (omega arith))))
    (λ m. answer_single b (c ∷ text) m ∙ ap (λ l. b ∷ l) (stays (c ∷ text) (λ i lt. h (suc i) (omega arith)))) (backslash_or_other b)

-- plain text stays unchanged up to its first backslash with a dollar sign after it
abbrev GoesOnAt : List ℕ → List ℕ → Type 0
GoesOnAt x y = IsPlain y × (prose_answer (x ++ 92 ∷ 36 ∷ y) ≡ x ++ (codes "&#x24;" ++ prose_answer y))

at_dollar : (x y : List ℕ) → IsPlain (x ++ 92 ∷ 36 ∷ y) → Lacks (length x) (x ++ 92 ∷ 36 ∷ y) → GoesOnAt x y
at_dollar [] y p h = (behind_pair 92 36 y refl p, refl)
at_dollar (a ∷ []) y p h =
    ⊎_elim (λ is. absurd (plain_begins 36 y (behind_pair a 92 (36 ∷ y) is p) refl))
    (λ m. (let on = at_dollar [] y (behind_single a (92 ∷ 36 ∷ y) m p) (λ i lt. absurd (omega arith)) in (on.0, answer_single a (92 ∷ 36 ∷ y) m ∙ ap (λ l. a ∷ l) on.1))) (backslash_or_other a)
at_dollar (a ∷ d ∷ x) y p h =
    let rest : List ℕ = x ++ 92 ∷ 36 ∷ y in
    ⊎_elim (λ is. (let on = at_dollar x y (behind_pair a d rest is p) (λ i lt. h (suc (suc i)) (omega arith)) in (on.0, answer_pair_other a d rest is (lacks_second a d rest is (h 0 (omega arith))) ∙ ap (λ l. a ∷ d ∷ l) on.1)))
    (λ m. (let on = at_dollar (d ∷ x) y (behind_single a (d ∷ rest) m p) (λ i lt. h (suc i) (omega arith)) in (on.0, answer_single a (d ∷ rest) m ∙ ap (λ l. a ∷ l) on.1))) (backslash_or_other a)

-- what was appended so far, and the prose that is left
pub record IsPutSoFar (prose old text rest : List ℕ) : Type 0 where
  pub plain : IsPlain rest
  pub put : text ++ prose_answer rest ≡ old ++ prose_answer prose

pub more_put : (prose old text rest x y : List ℕ) → IsPutSoFar prose old text rest → rest ≡ x ++ 92 ∷ 36 ∷ y → Lacks (length x) rest → IsPutSoFar prose old ((text ++ x) ++ codes "&#x24;") y
more_put prose old text rest x y so e h =
    let on = at_dollar x y (subst IsPlain e so.plain) (subst (Lacks (length x)) e h) in
    record {
      plain = on.0;
      put = append_assoc (text ++ x) (codes "&#x24;") (prose_answer y) ∙ append_assoc text x (codes "&#x24;" ++ prose_answer y) ∙ ap (λ l. text ++ l) (sym on.1) ∙ ap (λ l. text ++ prose_answer l) (sym e) ∙ so.put;
    }

pub all_put : (prose old text rest : List ℕ) → IsPutSoFar prose old text rest → Lacks (length rest) rest → text ++ rest ≡ old ++ prose_answer prose
all_put prose old text rest so h = ap (λ l. text ++ l) (sym (stays rest h)) ∙ so.put

-- text that is pushed if there is memory
pub on_ok : {T E : Type 0} (r : Result T E) (new more old due : List ℕ) → new ≡ cond (is_ok r) more old → more ≡ due → OnOk r (new ≡ due)
on_ok (Ok x) new more old due e p = e ∙ p
on_ok (Err x) new more old due e p = tt
