-- Keys are ordered as the names are, and short names with the same key are ordered as their lengths are.
use Rattle.std.proofs.Common.{◌≡◌, ℕ, zero, suc, ◌+◌, ◌*◌, ◌^◌, ◌<◌, ◌≤◌, true, nat_eq, nat_lt, List, [], ◌∷◌, get_or, length, refl, sym, ap, ◌∙◌, arith}
use Rattle.std.proofs.Math.Nat.{pow-suc, pow-le-pow_right, mul-le-mul_right}
use Rattle.std.proofs.lemmas.Bool.{Decides.nat_tests, and_from, and_parts, eqb-true, ltb-true}
use Rattle.std.proofs.lemmas.Cmp.{by_ranked, nat_list_cmp_total}
use Rattle.std.specs.{Cmp.nat_cmp_is, Cmp.ranked, Cmp.Lexicographic.slice_cmp}
use Rattle.std.specs.Ordering.{nat_cmp, ordering_reverse}
use Rattle.std.specs.declared.cmp.Ordering.TheVariants.{Less, Greater}
use Rattle.latex2mathml_tokens.specs.Entries.{are_bytes, is_key, number}

-- the number of the first bytes, from the front

number-empty : (n : ℕ) → number n [] ≡ 0
number-empty zero = refl
number-empty (suc n) = rw (number-empty n) refl

number-front : (n b : ℕ) (name : List ℕ) → number (suc n) (b ∷ name) ≡ b * 256 ^ n + number n name
number-front zero b name = grind arith
number-front (suc n) b name = rw (number-front n b name, pow-suc 256 n) (grind arith)

rest_bytes : (n b : ℕ) (name : List ℕ) → are_bytes (suc n) (b ∷ name) ≡ true → are_bytes n name ≡ true
rest_bytes zero b name h = refl
rest_bytes (suc n) b name h = let p = and_parts _ _ h in and_from _ _ (rest_bytes n b name p.0) p.1

pub number-small : (n : ℕ) (name : List ℕ) → are_bytes n name ≡ true → number n name < 256 ^ n
number-small zero name h = omega arith
number-small (suc n) name h =
    let p = and_parts (are_bytes n name) (nat_lt (get_or name n 0) 256) h in
    rw (pow-suc 256 n) (omega (arith, number-small n name p.0, ltb-true (get_or name n 0) 256 p.1))

-- the first byte decides if it differs

first_less : (n x y : ℕ) (a b : List ℕ) → x < y → are_bytes n a ≡ true → number (suc n) (x ∷ a) < number (suc n) (y ∷ b)
first_less n x y a b h s =
    let m : suc x * 256 ^ n ≤ y * 256 ^ n = mul-le-mul_right (256 ^ n) h in
    rw (number-front n x a, number-front n y b) (grind (arith, m, number-small n a s))

less : (n : ℕ) (a b : List ℕ) → are_bytes n a ≡ true → are_bytes n b ≡ true → number n a < number n b → slice_cmp nat_cmp a b ≡ Less
less zero a b s t h = absurd (omega arith)
less (suc n) a [] s t h = absurd (omega (arith, number-empty (suc n)))
less (suc n) [] (y ∷ b) s t h = refl
less (suc n) (x ∷ a) (y ∷ b) s t h =
    by_ranked (x < y) (x ≡ y) (y < x) (nat_cmp x y) (ranked x y (nat_cmp x y) refl) (λ is m. rw is refl)
    (λ is m. rw is (less n a b (rest_bytes n x a s) (rest_bytes n y b t) (omega (arith, number-front n x a, number-front n y b, ap (λ k. k * 256 ^ n) m))))
    (λ is m. absurd (omega (arith, first_less n y x b a m (rest_bytes n y b t))))

cmp-suc : (i j : ℕ) → nat_cmp i j ≡ nat_cmp (suc i) (suc j)
cmp-suc i j = grind (arith, nat_tests)

tied : (n : ℕ) (a b : List ℕ) → are_bytes n a ≡ true → are_bytes n b ≡ true → length a ≤ n → length b ≤ n → number n a ≡ number n b → slice_cmp nat_cmp a b ≡ nat_cmp (length a) (length b)
tied n [] [] s t p q e = refl
tied n [] (y ∷ b) s t p q e = nat_cmp_is 0 (suc (length b)) Less (omega arith)
tied n (x ∷ a) [] s t p q e = nat_cmp_is (suc (length a)) 0 Greater (omega arith)
tied zero (x ∷ a) (y ∷ b) s t p q e = absurd (omega arith)
tied (suc n) (x ∷ a) (y ∷ b) s t p q e =
    by_ranked (x < y) (x ≡ y) (y < x) (nat_cmp x y) (ranked x y (nat_cmp x y) refl)
    (λ is m. absurd (omega (arith, e, first_less n x y a b m (rest_bytes n x a s))))
    (λ is m. rw is (tied n a b (rest_bytes n x a s) (rest_bytes n y b t) (omega arith) (omega arith) (omega (arith, number-front n x a, number-front n y b, ap (λ k. k * 256 ^ n) m))))
    (λ is m. absurd (omega (arith, e, first_less n y x b a m (rest_bytes n y b t))))
    ∙ cmp-suc (length a) (length b)

-- the same for keys

key_is : (k : ℕ) (a : List ℕ) → is_key k a ≡ true → (k ≡ number 8 a) × (are_bytes 8 a ≡ true)
key_is k a h = let parts = and_parts (nat_eq k (number 8 a)) (are_bytes 8 a) h in (eqb-true k (number 8 a) parts.0, parts.1)

pub key_less : (k l : ℕ) (a b : List ℕ) → is_key k a ≡ true → is_key l b ≡ true → k < l → slice_cmp nat_cmp a b ≡ Less
key_less k l a b h i m =
    let p = key_is k a h in
    let q = key_is l b i in
    less 8 a b p.1 q.1 (omega (arith, p.0, q.0))

pub key_greater : (k l : ℕ) (a b : List ℕ) → is_key k a ≡ true → is_key l b ≡ true → l < k → slice_cmp nat_cmp a b ≡ Greater
key_greater k l a b h i m = nat_list_cmp_total.antisymm a b ∙ ap ordering_reverse (key_less l k b a i h m)

pub key_tied : (k l : ℕ) (a b : List ℕ) → is_key k a ≡ true → is_key l b ≡ true → k ≡ l → length a ≤ 8 → length b ≤ 8 → slice_cmp nat_cmp a b ≡ nat_cmp (length a) (length b)
key_tied k l a b h i e m n =
    let p = key_is k a h in
    let q = key_is l b i in
    tied 8 a b p.1 q.1 m n (sym p.0 ∙ e ∙ q.0)

pub ruleset by_keys = (key_less, key_greater, key_tied)

-- the invariant of the loop over the bytes: the key of the first n of them
pub record Begun (name : List ℕ) (key n : ℕ) : Type 0 where
  pub value : key ≡ number n name
  pub bytes : are_bytes n name ≡ true
  pub within : n ≤ 8

pub fits : (name : List ℕ) (key n b : ℕ) → Begun name key n → n < 8 → b < 256 → key * 256 + b < 2 ^ 64
fits name key n b so_far h g =
    let seven : n ≤ 7 = omega arith in
    omega (arith, number-small n name so_far.bytes, pow-le-pow_right {n = 256} (omega arith) seven, so_far.value)
