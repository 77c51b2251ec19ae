-- Plain text, and where it ends.
use Rattle.std.proofs.Common.{◌≡◌, ◌≢◌, ◌⊎◌, ℕ, zero, suc, ◌+◌, ◌<◌, ◌≤◌, Bool, true, false, List, [], ◌∷◌, ◌++◌, length, get_or, take, ⊎_elim, inl, inr, refl, sym, ap, subst, ◌∙◌, arith, append-nil, append_assoc, get_or-take, length-take}
use Rattle.std.specs.Prelude.{MatchBool}
use Rattle.std.proofs.lemmas.Bool.Decides.{eqb_tells, nat_tests}
use Rattle.std.proofs.{lemmas.List.take_more}
use Rattle.latex2mathml.specs.Pieces.{EndsAt, EndsBefore}
use Rattle.latex2mathml.specs.Documents.{IsWhole, nothing, single, pair, IsPlain, whole, lone, IsBody}
use Rattle.latex2mathml_grammar.specs.Dollars.{dollar, backslash, is_other, IsDollarFree, free_first, free_more, free_rest, other}

-- plain text begins with no dollar sign
whole_begins : (b : ℕ) (text : List ℕ) → IsWhole (b ∷ text) → b ≢ dollar
whole_begins b text (single n m w) e = n e
whole_begins b text (pair is w) e = omega arith

pub plain_begins : (b : ℕ) (text : List ℕ) → IsPlain (b ∷ text) → b ≢ dollar
plain_begins b text (whole w) e = whole_begins b text w e
plain_begins b text (lone {front} w is) e = go front w is
  where
    go : (front : List ℕ) → IsWhole front → (b ∷ text) ≡ front ++ 92 ∷ [] → ⊥
    go [] w is = let k : b ≡ 92 = cc in omega arith
    go (a ∷ front) w is = whole_begins a front w (let k : b ≡ a = cc in sym k ∙ e)

pub body_plain : (body : List ℕ) → IsBody body → IsPlain body
body_plain body b = whole b.1

pub body_ends : (body rest : List ℕ) → IsBody body → EndsBefore body (dollar ∷ rest)
body_ends body rest b = (refl, b.1)

pub ends_before_head : (text : List ℕ) (b : ℕ) (rest : List ℕ) → EndsBefore text (b ∷ rest) → b ≡ dollar
ends_before_head text b rest e = e.0

-- whole units end at the first dollar sign that is a unit
whole_ends_once : (x y u v : List ℕ) → IsWhole x → IsWhole y → x ++ 36 ∷ u ≡ y ++ 36 ∷ v → (x ≡ y) × (u ≡ v)
whole_ends_once [] [] u v nothing nothing e = (refl, cc)
whole_ends_once [] (b ∷ y) u v nothing (single n m w) e = absurd (n (let k : 36 ≡ b = cc in sym k))
whole_ends_once [] (b ∷ c ∷ y) u v nothing (pair is w) e = absurd (let k : 36 ≡ b = cc in omega arith)
whole_ends_once (a ∷ x) [] u v (single n m w) nothing e = absurd (n (cc))
whole_ends_once (a ∷ c ∷ x) [] u v (pair is w) nothing e = absurd (let k : a ≡ 36 = cc in omega arith)
whole_ends_once (a ∷ x) (b ∷ y) u v (single n m w) (single n' m' w') e =
    let both = whole_ends_once x y u v w w' (let k : x ++ 36 ∷ u ≡ y ++ 36 ∷ v = cc in k) in
    let l : (a ∷ x) ≡ (b ∷ y) = cc (both.0) in
    (l, both.1)
whole_ends_once (a ∷ x) (b ∷ c ∷ y) u v (single n m w) (pair is w') e = absurd (m (let k : a ≡ b = cc in k ∙ is))
whole_ends_once (a ∷ c ∷ x) (b ∷ y) u v (pair is w) (single n m w') e = absurd (m (let k : a ≡ b = cc in sym k ∙ is))
whole_ends_once (a ∷ c ∷ x) (b ∷ d ∷ y) u v (pair is w) (pair is' w') e =
    let both = whole_ends_once x y u v w w' (let k : x ++ 36 ∷ u ≡ y ++ 36 ∷ v = cc in k) in
    let l : (a ∷ c ∷ x) ≡ (b ∷ d ∷ y) = cc (both.0) in
    (l, both.1)

-- whole units hold no dollar sign after whole units
never_whole : (x y v : List ℕ) → IsWhole x → IsWhole y → x ≡ y ++ 36 ∷ v → ⊥
never_whole [] [] v nothing nothing e = cc
never_whole [] (b ∷ y) v nothing w e = cc
never_whole (a ∷ x) [] v w nothing e = whole_begins a x w (cc)
never_whole (a ∷ x) (b ∷ y) v (single n m w) (single n' m' w') e = never_whole x y v w w' (cc)
never_whole (a ∷ x) (b ∷ c ∷ y) v (single n m w) (pair is w') e = m (let k : a ≡ b = cc in k ∙ is)
never_whole (a ∷ c ∷ x) (b ∷ y) v (pair is w) (single n m w') e = m (let k : a ≡ b = cc in sym k ∙ is)
never_whole (a ∷ c ∷ x) (b ∷ d ∷ y) v (pair is w) (pair is' w') e = never_whole x y v w w' (cc)

-- whole units with a lone backslash after them hold no dollar sign after whole units
never_lone : (x y v : List ℕ) → IsWhole x → IsWhole y → x ++ 92 ∷ [] ≡ y ++ 36 ∷ v → ⊥
never_lone [] [] v nothing nothing e = let k : ◌≡◌ {A = ℕ} 92 36 = cc in omega arith
never_lone [] (b ∷ []) v nothing w e = cc
never_lone [] (b ∷ c ∷ y) v nothing w e = cc
never_lone (a ∷ x) [] v w nothing e = whole_begins a x w (cc)
never_lone (a ∷ x) (b ∷ y) v (single n m w) (single n' m' w') e = never_lone x y v w w' (cc)
never_lone (a ∷ x) (b ∷ c ∷ y) v (single n m w) (pair is w') e = m (let k : a ≡ b = cc in k ∙ is)
never_lone (a ∷ c ∷ x) (b ∷ y) v (pair is w) (single n m w') e = m (let k : a ≡ b = cc in sym k ∙ is)
never_lone (a ∷ c ∷ x) (b ∷ d ∷ y) v (pair is w) (pair is' w') e = never_lone x y v w w' (cc)

never_plain : (x y v : List ℕ) → IsPlain x → IsWhole y → x ≡ y ++ 36 ∷ v → ⊥
never_plain x y v (whole p) w e = never_whole x y v p w e
never_plain x y v (lone {front} p is) w e = never_lone front y v p w (sym is ∙ e)

-- plain text ends at one place only: the first dollar sign that is a unit, or the end
pub plain_ends_once : (x y u v : List ℕ) → IsPlain x → IsPlain y → EndsBefore x u → EndsBefore y v → x ++ u ≡ y ++ v → (x ≡ y) × (u ≡ v)
plain_ends_once x y [] [] p q s t e = (sym (append-nil x) ∙ e ∙ append-nil y, refl)
plain_ends_once x y [] (d ∷ v) p q s t e = absurd (never_plain x y v p t.1 (sym (append-nil x) ∙ e ∙ ap (λ k. y ++ k ∷ v) t.0))
plain_ends_once x y (c ∷ u) [] p q s t e = absurd (never_plain y x u q s.1 (sym (append-nil y) ∙ sym e ∙ ap (λ k. x ++ k ∷ u) s.0))
plain_ends_once x y (c ∷ u) (d ∷ v) p q s t e =
    let both = whole_ends_once x y u v s.1 t.1 (ap (λ k. x ++ k ∷ u) (sym s.0) ∙ e ∙ ap (λ k. y ++ k ∷ v) t.0) in
    let l : (c ∷ u) ≡ (d ∷ v) = (λ i. (s.0 ∙ sym t.0) i ∷ both.1 i) in
    (both.0, l)

-- joined whole units are whole
pub whole_append : (x y : List ℕ) → IsWhole x → IsWhole y → IsWhole (x ++ y)
whole_append [] y nothing v = v
whole_append (b ∷ x) y (single n m w) v = single n m (whole_append x y w v)
whole_append (b ∷ c ∷ x) y (pair is w) v = pair is (whole_append x y w v)

pub plain_append : (x y : List ℕ) → IsWhole x → IsPlain y → IsPlain (x ++ y)
plain_append x y w (whole v) = whole (whole_append x y w v)
plain_append x y w (lone {front} v is) = lone (whole_append x front w v) (ap (λ l. x ++ l) is ∙ sym (append_assoc x front (92 ∷ [])))

-- plain text with one more unit in front is plain
pub more_single : (b : ℕ) (text : List ℕ) → b ≢ dollar → b ≢ backslash → IsPlain text → IsPlain (b ∷ text)
more_single b text n m p = plain_append (b ∷ []) text (single n m nothing) p

pub more_pair : (b c : ℕ) (text : List ℕ) → b ≡ backslash → IsPlain text → IsPlain (b ∷ c ∷ text)
more_pair b c text is p = plain_append (b ∷ c ∷ []) text (pair is nothing) p

same_or_other : (b c : ℕ) → (b ≡ c) ⊎ (b ≢ c)
same_or_other b c = ⊎_elim (λ h. inl h.1) (λ h. inr h.1) (eqb_tells b c)

pub dollar_or_other : (b : ℕ) → (b ≡ dollar) ⊎ (b ≢ dollar)
dollar_or_other b = same_or_other b dollar

pub backslash_or_other : (b : ℕ) → (b ≡ backslash) ⊎ (b ≢ backslash)
backslash_or_other b = same_or_other b backslash

-- plain text without its first unit is plain
pub behind_single : (b : ℕ) (text : List ℕ) → b ≢ backslash → IsPlain (b ∷ text) → IsPlain text
behind_single b text m (whole (single n m' w)) = whole w
behind_single b text m (whole (pair is w)) = absurd (m is)
behind_single b text m (lone {front} w is) = go front w is
  where
    go : (front : List ℕ) → IsWhole front → (b ∷ text) ≡ front ++ 92 ∷ [] → IsPlain text
    go [] w is = absurd (m (let k : b ≡ 92 = cc in k))
    go (a ∷ front) (single n m' w) is = lone w (let k : text ≡ front ++ 92 ∷ [] = cc in k)
    go (a ∷ c ∷ front) (pair is' w) is = absurd (m (let k : b ≡ a = cc in k ∙ is'))

pub behind_pair : (b c : ℕ) (text : List ℕ) → b ≡ backslash → IsPlain (b ∷ c ∷ text) → IsPlain text
behind_pair b c text is (whole (single n m w)) = absurd (m is)
behind_pair b c text is (whole (pair is' w)) = whole w
behind_pair b c text is (lone {front} w e) = go front w e
  where
    go : (front : List ℕ) → IsWhole front → (b ∷ c ∷ text) ≡ front ++ 92 ∷ [] → IsPlain text
    go [] w e = cc
    go (a ∷ front) (single n m w) e = absurd (m (let k : a ≡ b = cc in k ∙ is))
    go (a ∷ d ∷ front) (pair is' w) e = lone w (let k : text ≡ front ++ 92 ∷ [] = cc in k)

-- the longest plain front of a text
abbrev pub PlainFront : List ℕ → Type 0
PlainFront text = (front : List ℕ) × (rest : List ℕ) × (front ++ rest ≡ text) × IsPlain front × EndsBefore front rest

longer : (x text : List ℕ) → IsWhole x → PlainFront text → PlainFront (x ++ text)
longer x text w (front, rest, j, p, s) =
    (x ++ front, rest, append_assoc x front rest ∙ ap (λ l. x ++ l) j, plain_append x front w p, ends rest s)
  where
    ends : (rest : List ℕ) → EndsBefore front rest → EndsBefore (x ++ front) rest
    ends [] s = tt
    ends (b ∷ rest) s = (s.0, whole_append x front w s.1)

pub plain_front : (text : List ℕ) → PlainFront text
plain_front [] = ([], [], refl, whole nothing, tt)
plain_front (b ∷ []) =
    ⊎_elim (λ sign. ([], b ∷ [], refl, whole nothing, (sign, nothing)))
    (λ n. ⊎_elim (λ is. (b ∷ [], [], refl, lone nothing (ap (λ c. c ∷ []) is), tt)) (λ m. (b ∷ [], [], refl, whole (single n m nothing), tt)) (backslash_or_other b)) (dollar_or_other b)
plain_front (b ∷ c ∷ text) =
    ⊎_elim (λ sign. ([], b ∷ c ∷ text, refl, whole nothing, (sign, nothing)))
    (λ n. ⊎_elim (λ is. longer (b ∷ c ∷ []) text (pair is nothing) (plain_front text)) (λ m. longer (b ∷ []) (c ∷ text) (single n m nothing) (plain_front (c ∷ text))) (backslash_or_other b)) (dollar_or_other b)

-- the front of a text that a loop passed: no unit of it is a dollar sign
pub record Passed (text : List ℕ) (place : ℕ) : Type 0 where
  pub in_range : place ≤ length text
  pub plain : IsPlain (take place text)
  pub whole_inside : place < length text → IsWhole (take place text)

pub nothing_passed : (text : List ℕ) → Passed text 0
nothing_passed text = record { in_range = omega arith; plain = whole nothing; whole_inside = λ _. nothing }

module _ (text : List ℕ) (place : ℕ) (so : Passed text place) (inside : place < length text) where
  one_more : take (place + 1) text ≡ take place text ++ get_or text place 0 ∷ []
  one_more = take_more text place 0 inside

  pub passed_single : get_or text place 0 ≢ dollar → get_or text place 0 ≢ backslash → Passed text (place + 1)
  passed_single n m =
      let w : IsWhole (take (place + 1) text) = subst IsWhole (sym one_more) (whole_append (take place text) (get_or text place 0 ∷ []) (so.whole_inside inside) (single n m nothing)) in
      record { in_range = omega arith; plain = whole w; whole_inside = λ _. w }

  pub passed_lone : get_or text place 0 ≡ backslash → length text ≤ place + 1 → Passed text (place + 1)
  passed_lone is last = record {
    in_range = omega arith;
    plain = lone (so.whole_inside inside) (one_more ∙ ap (λ b. take place text ++ b ∷ []) is);
    whole_inside = λ lt. absurd (omega arith);
  }

  pub passed_pair : get_or text place 0 ≡ backslash → place + 1 < length text → Passed text (place + 2)
  passed_pair is more =
      let two : take (place + 2) text ≡ (take place text ++ get_or text place 0 ∷ []) ++ get_or text (place + 1) 0 ∷ [] = ap (λ n. take n text) (let k : place + 2 ≡ (place + 1) + 1 = omega arith in k) ∙ (take_more text (place + 1) 0 more ∙ ap (λ l. l ++ get_or text (place + 1) 0 ∷ []) one_more) in
      let w : IsWhole (take (place + 2) text) = subst IsWhole (sym (two ∙ append_assoc (take place text) (get_or text place 0 ∷ []) (get_or text (place + 1) 0 ∷ []))) (whole_append (take place text) (get_or text place 0 ∷ get_or text (place + 1) 0 ∷ []) (so.whole_inside inside) (pair is nothing)) in
      record { in_range = omega arith; plain = whole w; whole_inside = λ _. w }

-- text of which no byte is a dollar sign
free_text : (text : List ℕ) → ((i : ℕ) → i < length text → get_or text i 0 ≢ dollar) → IsDollarFree text
free_text [] none = refl
free_text (b ∷ text) none = free_more b text (other b (none 0 (omega arith))) (free_text text (λ i inside. none (suc i) (omega arith)))

-- text before the first dollar sign holds no dollar sign
pub none_before : (text : List ℕ) (place : ℕ) → ((i : ℕ) → i < place → get_or text i 0 ≢ dollar) → IsDollarFree (take place text)
none_before text place none =
    free_text (take place text) (λ i inside e. (let short : i < place = omega (arith, length-take place text) in none i short (sym (get_or-take place text i 0 short) ∙ e)))

pub no_dollar : (c : ℕ) → is_other c ≡ true → c ≢ dollar
no_dollar c h = grind (arith, nat_tests)

-- text of which a byte is a dollar sign
not_free : (text : List ℕ) (place : ℕ) → place < length text → get_or text place 0 ≡ dollar → IsDollarFree text → ⊥
not_free [] place inside e h = omega arith
not_free (b ∷ text) zero inside e h = no_dollar b (free_first b text h) e
not_free (b ∷ text) (suc place) inside e h = not_free text place (omega arith) e (free_rest b text h)

-- a search for a dollar sign
pub tells_dollars : (text : List ℕ) (found : Bool) → (found ≡ true → (k : ℕ) × (k < length text) × (get_or text k 0 ≡ dollar)) × ((k : ℕ) → k < length text → get_or text k 0 ≡ dollar → found ≡ true) → MatchBool found (¬ IsDollarFree text) (IsDollarFree text)
tells_dollars text true h = let at = h.0 refl in not_free text at.0 at.1 at.2
tells_dollars text false h = free_text text (λ i inside e. (let k : false ≡ true = h.1 i inside e in cc))

-- text without dollar signs is whole, unless it ends in a backslash
pub free_whole : (text : List ℕ) → IsDollarFree text → ((front : List ℕ) → text ≢ front ++ 92 ∷ []) → IsWhole text
free_whole [] h m = nothing
free_whole (b ∷ []) h m = single (no_dollar b (free_first b [] h)) (λ is. m [] (ap (λ c. c ∷ []) is)) nothing
free_whole (b ∷ c ∷ text) h m =
    ⊎_elim (λ is. pair is (free_whole text (free_rest c text (free_rest b (c ∷ text) h)) (λ front e. m (b ∷ c ∷ front) (ap (λ l. b ∷ c ∷ l) e))))
    (λ other. single (no_dollar b (free_first b (c ∷ text) h)) other (free_whole (c ∷ text) (free_rest b (c ∷ text) h) (λ front e. m (b ∷ front) (ap (λ l. b ∷ l) e)))) (backslash_or_other b)

pub ends_whole : (text rest : List ℕ) → IsWhole text → EndsAt dollar rest → EndsBefore text rest
ends_whole text [] w e = tt
ends_whole text (b ∷ rest) w e = (e, w)
