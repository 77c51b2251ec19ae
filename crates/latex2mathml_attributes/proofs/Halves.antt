-- Two columns in the halves of a byte.
use Rattle.std.proofs.Common.{◌≡◌, ℕ, ◌+◌, ◌*◌, ◌<◌, ◌≤◌, ◌%◌, ◌/◌, List, [], ◌∷◌, ◌++◌, nat_lt, true, length, map, take, refl, sym, ap, ◌∙◌, arith}
use Rattle.std.proofs.Math.ListN.{get_or, set}
use Rattle.std.proofs.Math.Seq.{map-set_same, take-append-add}
use Rattle.std.proofs.lemmas.List.{append_assoc, length-append, length-map, length-set, length-take-le, map-set, take-append-le, take_more_set}
use Rattle.std.proofs.lemmas.Bool.Decides.{nat_tests}
use Rattle.latex2mathml_elements.specs.Columns.{Column}
use Rattle.latex2mathml_elements.specs.Lines.{Line}
use Rattle.latex2mathml_attributes.specs.Columns.{columns_in, columns_with, earlier, later, listed_behind, numbered}
use Rattle.latex2mathml_attributes.specs.declared.columns.Kind.{Kind}
use Rattle.latex2mathml_attributes.specs.declared.columns.Kind.TheVariants as kind

pub length_in : (bytes : List ℕ) → length (columns_in bytes) ≡ length bytes + length bytes
length_in bytes =
    let low = length-map bytes earlier in
    let high = length-map bytes later in
    let all = length-append (map earlier bytes) (map later bytes) in
    omega (arith, low, high, all)

-- the first columns of an array
lower_first : (bytes : List ℕ) (n : ℕ) → n ≤ length bytes → take n (columns_in bytes) ≡ take n (map earlier bytes)
lower_first bytes n h = let same = length-map bytes earlier in take-append-le n (map earlier bytes) (map later bytes) (omega (arith, h, same))

-- a column is put in the lower half of a byte whose halves are free
pub lower_put : (bytes : List ℕ) (n c : ℕ) → n < length bytes → c < 16 → take (n + 1) (columns_in (set bytes n c)) ≡ take n (columns_in bytes) ++ numbered c ∷ []
lower_put bytes n c h small =
    let low : c % 16 ≡ c = omega (arith, small) in
    let size = length-map bytes earlier in
    let sized = length-set bytes n c in
    lower_first (set bytes n c) (n + 1) (omega (arith, h, sized))
    ∙ ap (take (n + 1)) (map-set earlier bytes n c)
    ∙ take_more_set (map earlier bytes) n (earlier c) (omega (arith, h, size))
    ∙ ap (λ k. take n (map earlier bytes) ++ numbered k ∷ []) low
    ∙ ap (λ xs. xs ++ numbered c ∷ []) (sym (lower_first bytes n (omega (arith, h))))

-- a column is put in the upper half of a byte, whose lower half stays
pub upper_put : (bytes : List ℕ) (n c d : ℕ) → n < length bytes → c < 16 → let b = get_or bytes n d % 16 + 16 * c in take (length bytes + (n + 1)) (columns_in (set bytes n b)) ≡ take (length bytes + n) (columns_in bytes) ++ numbered c ∷ []
upper_put bytes n c d h small =
    let b = get_or bytes n d % 16 + 16 * c in
    let low : b % 16 ≡ get_or bytes n d % 16 = omega (arith, small) in
    let high : b / 16 ≡ c = omega (arith, small) in
    let size = length-map bytes earlier in
    let sized = length-map bytes later in
    let same : map earlier (set bytes n b) ≡ map earlier bytes = map-set_same earlier bytes n b d (ap numbered low) in
    ap (λ xs. take (length bytes + (n + 1)) (xs ++ map later (set bytes n b))) same
    ∙ ap (λ k. take (k + (n + 1)) (map earlier bytes ++ map later (set bytes n b))) (sym size)
    ∙ take-append-add (map earlier bytes) (map later (set bytes n b)) (n + 1)
    ∙ ap (λ xs. map earlier bytes ++ take (n + 1) xs) (map-set later bytes n b)
    ∙ ap (λ xs. map earlier bytes ++ xs) (take_more_set (map later bytes) n (later b) (omega (arith, h, sized)))
    ∙ ap (λ k. map earlier bytes ++ (take n (map later bytes) ++ numbered k ∷ [])) high
    ∙ sym (append_assoc (map earlier bytes) (take n (map later bytes)) (numbered c ∷ []))
    ∙ ap (λ xs. xs ++ numbered c ∷ []) (sym (take-append-add (map earlier bytes) (map later bytes) n))
    ∙ ap (λ k. take (k + n) (columns_in bytes) ++ numbered c ∷ []) size

is_less : (n : ℕ) → n < 32 → nat_lt n 32 ≡ true
is_less n h = grind (arith, nat_tests)

-- one more column is listed
pub one_more : (k : Kind) (line : Line) (old new : List ℕ) (n : ℕ) (column : Column) → k ≡ kind.Listed → n < 32 → length old ≡ 16 → take (n + 1) (columns_in new) ≡ take n (columns_in old) ++ column ∷ [] → columns_with k line (take (n + 1) (columns_in new)) ≡ listed_behind column (columns_with k line (take n (columns_in old)))
one_more k line old new n column is h sixteen put =
    let all = length_in old in
    let size : length (take n (columns_in old)) ≡ n = length-take-le n (columns_in old) (omega (arith, h, sixteen, all)) in
    let room : nat_lt (length (take n (columns_in old))) 32 ≡ true = ap (λ m. nat_lt m 32) size ∙ is_less n h in
    rw (is, put, room) refl
