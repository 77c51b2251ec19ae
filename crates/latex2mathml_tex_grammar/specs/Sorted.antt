-- Tables that are sorted.
use Rattle.std.specs.Prelude.{ℕ, List, [], ◌∷◌, Bool, true, ◌&&◌, nat_lt}
use Rattle.std.specs.{Cmp.Lexicographic.slice_cmp, Ordering.nat_cmp, Ordering.is_lt}

-- the name is less than the first entry's, if there is one
abbrev pub before_first : {V : Type 0} → List ℕ → List (List ℕ × V) → Bool
before_first name [] = true
before_first name (entry ∷ entries) = is_lt (slice_cmp nat_cmp name entry.0)

-- each name is less than the next
unfoldable pub ascending : {V : Type 0} → List (List ℕ × V) → Bool
ascending [] = true
ascending (entry ∷ entries) = before_first entry.0 entries && ascending entries

-- the number is less than the first entry's, if there is one
abbrev pub below_first : {V : Type 0} → ℕ → List (ℕ × V) → Bool
below_first number [] = true
below_first number (entry ∷ entries) = nat_lt number entry.0

-- each number is less than the next
unfoldable pub ascending_numbers : {V : Type 0} → List (ℕ × V) → Bool
ascending_numbers [] = true
ascending_numbers (entry ∷ entries) = below_first entry.0 entries && ascending_numbers entries
