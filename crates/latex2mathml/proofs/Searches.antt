-- The search for the first dollar sign: what a mask says of the bytes under it, and what a loop passed.
use Rattle.std.proofs.Common.{◌≡◌, ◌≢◌, ℕ, ◌+◌, ◌^◌, ◌-◌, ◌<◌, ◌≤◌, Bool, true, false, cond, eqb, List, length, get_or, take, drop, map, ⊎_elim, refl, sym, ap, subst, ◌∙◌, arith, w64}
use Rattle.std.specs.Int.{bit_at, trailing_zeros}
use Rattle.std.specs.Simd.Lanes.{mask_l}
use Rattle.std.proofs.lemmas.Simd.{bit_mask_l, get_or-chunk, length-chunk, mask_l-lt, none_from_empty_mask}
use Rattle.std.proofs.lemmas.Bool.{cases_lt}
use Rattle.std.proofs.lemmas.Bool.Decides.{eqb_tells}
use Rattle.std.proofs.lemmas.List.{get_or_past, length-map}
use Rattle.std.proofs.lemmas.Nat.Bits.{bit_at-trailing_zeros}
use Rattle.std.proofs.Math.ListN.{get_or-map}
use Rattle.latex2mathml.specs.Pieces.{HoldsNoDollar, IsFirstDollar}
use Rattle.latex2mathml_grammar.specs.Dollars.{IsDollarFree, dollar}
use Rattle.latex2mathml.proofs.PlainTexts.{none_before}

abbrev is_dollar : ℕ → Bool
is_dollar b = eqb b 36

told : (b : ℕ) → is_dollar b ≡ true → b ≡ dollar
told b e = ⊎_elim (λ h. h.1) (λ h. (let k : true ≡ false = sym e ∙ h.0 in cc)) (eqb_tells b 36)

-- the mask of 16 bytes from a place on: a bit is set where the byte is a dollar sign
module _ (bytes : List ℕ) (place : ℕ) (room : place + 16 ≤ length bytes) where
  abbrev lanes : List ℕ
  lanes = take 16 (drop place bytes)

  abbrev pub mask : ℕ
  mask = mask_l (map is_dollar lanes)

  bit_is : (k : ℕ) → bit_at mask k ≡ cond (is_dollar (get_or lanes k 0)) 1 0
  bit_is k = bit_mask_l (map is_dollar lanes) k ∙ ap (λ b. cond b 1 0) (get_or-map is_dollar lanes k 0)

  long : length lanes ≡ 16
  long = length-chunk place 16 bytes room

  set_bit : (b : Bool) → (cond {A = ℕ} b 1 0 ≡ 1) → b ≡ true
  set_bit true e = refl
  set_bit false e = absurd (omega arith)

  clear_bit : (b : Bool) → (cond {A = ℕ} b 1 0 ≡ 0) → b ≡ false
  clear_bit true e = absurd (omega arith)
  clear_bit false e = refl

  sign_at : (k : ℕ) → bit_at mask k ≡ 1 → get_or lanes k 0 ≡ dollar
  sign_at k set = told (get_or lanes k 0) (set_bit _ (sym (bit_is k) ∙ set))

  inside : (k : ℕ) → get_or lanes k 0 ≡ dollar → k < 16
  inside k e =
      ⊎_elim (λ l. l)
      (λ ge. (let past : get_or lanes k 0 ≡ 0 = get_or_past lanes k 0 (omega (arith, long)) in absurd (omega (arith, sym past ∙ e))))
      (cases_lt k 16)

  pub none_marked : mask ≡ 0 → HoldsNoDollar bytes place (place + 16)
  none_marked none i low high e =
      let clear = none_from_empty_mask is_dollar bytes place 16 0 room none i low high in
      (let k : true ≡ false = sym (ap is_dollar e) ∙ clear in cc)

  fits : mask < 2 ^ 64
  fits =
      let many : length (map is_dollar lanes) ≡ 16 = length-map lanes is_dollar ∙ long in
      let small : mask < 2 ^ 16 = subst (λ n. mask < 2 ^ n) many (mask_l-lt (map is_dollar lanes)) in
      omega (arith, small)

  pub first_marked : mask ≢ 0 → IsFirstDollar bytes place (place + 16) (place + trailing_zeros w64 mask)
  first_marked some =
      let t = trailing_zeros w64 mask in
      let h = bit_at-trailing_zeros w64 mask (omega (arith, some)) fits in
      let short : t < 16 = inside t (sign_at t h.1) in
      record {
        low = omega arith;
        high = omega arith;
        none_before = λ i from to e. (
            let back : place + (i - place) ≡ i = omega arith in
            let at : get_or lanes (i - place) 0 ≡ dollar = get_or-chunk place 16 bytes (i - place) 0 (omega arith) ∙ ap (λ j. get_or bytes j 0) back ∙ e in
            let clear = sym (bit_is (i - place)) ∙ h.2 (i - place) (omega arith) in
            let n = clear_bit _ clear in
            (let k : true ≡ false = sym (ap is_dollar at) ∙ n in cc)
            );
        is_dollar = sym (get_or-chunk place 16 bytes t 0 short) ∙ sign_at t h.1;
      }

-- what two searches passed, one after the other
pub none_further : (text : List ℕ) (place found : ℕ) → HoldsNoDollar text 0 place → HoldsNoDollar text place found → HoldsNoDollar text 0 found
none_further text place found before behind i low high =
    ⊎_elim (λ l. before i low l) (λ ge. behind i ge high) (cases_lt i place)

pub free_before : (text : List ℕ) (place : ℕ) → HoldsNoDollar text 0 place → IsDollarFree (take place text)
free_before text place none = none_before text place (λ i l. none i (omega arith) l)
