-- The digits that come next, one after the other.
use Rattle.std.proofs.Common.{◌≡◌, ℕ, ◌≤◌, Bool, true, false, List, [], ◌∷◌, ◌++◌, Option, Some, None, refl, sym, ap, ◌∙◌, append_assoc, append-nil, inl, inr, arith}
use Rattle.std.proofs.lemmas.Bool.{cases_Bool}
use Rattle.latex2mathml_elements.specs.Element.{Element, token, space, rectangle, container, pair, triple, table}
use Rattle.latex2mathml_builder.specs.Stacks.{lengthened}
use Rattle.latex2mathml_tex_grammar.specs.Makes.{digits_in, number}
use Rattle.latex2mathml_tex_grammar.specs.Next.{digits_here, digits_next, first_is, first_passes, is_space_piece, next_are, past_space}
use Rattle.latex2mathml_tex_grammar.specs.{Rules.a_digit, Symbols.Alphabet}
use Rattle.latex2mathml_tex_grammar.specs.Units.{Units, Next, End, Stop}
use Rattle.latex2mathml_tex_units.specs.Left.{unit_count}

-- if no digit comes next
pub no_digit : (l : Units) → next_are (a_digit ∷ []) l ≡ None → digits_next l ≡ ([], past_space l)
no_digit (Next u us) e = elim (cases_Bool (is_space_piece u.piece)) [
  | inl h ↦ rw h (no_digit us (rw h at e))
  | inr h ↦ rw h (tested (a_digit u.piece) refl (rw h at e))
]
  where
    tested : (found : Option (List ℕ)) → a_digit u.piece ≡ found → first_is a_digit (next_are []) (Next u us) ≡ None → digits_here false (a_digit u.piece) (Next u us) (digits_next us) ≡ ([], Next u us)
    tested (Some d) h k = cc (ap (λ o. first_passes o (next_are [] us)) h)
    tested None h k = rw h refl
no_digit (End place) e = refl
no_digit (Stop r) e = refl

-- if a digit comes next
pub one_digit : (l m : Units) (c : ℕ) → next_are (a_digit ∷ []) l ≡ Some (c ∷ [], m) → digits_next l ≡ (c ∷ (digits_next m).0, (digits_next m).1)
one_digit (Next u us) m c e = elim (cases_Bool (is_space_piece u.piece)) [
  | inl h ↦ rw h (one_digit us m c (rw h at e))
  | inr h ↦ rw h (tested (a_digit u.piece) refl (rw h at e))
]
  where
    taken : (d : List ℕ) → first_passes (Some d) (next_are [] us) ≡ Some (c ∷ [], m) → digits_here false (Some d) (Next u us) (digits_next us) ≡ (c ∷ (digits_next m).0, (digits_next m).1)
    taken d k =
        let here : List ℕ × Units = (d ++ [], us) in
        let there : List ℕ × Units = (c ∷ [], m) in
        let both : here ≡ there = cc in
        let digit : d ≡ c ∷ [] = sym (append-nil d) ∙ ap (λ t. t.0) both in
        let rest : us ≡ m = ap (λ t. t.1) both in
        rw (digit, rest) refl

    tested : (found : Option (List ℕ)) → a_digit u.piece ≡ found → first_is a_digit (next_are []) (Next u us) ≡ Some (c ∷ [], m) → digits_here false (a_digit u.piece) (Next u us) (digits_next us) ≡ (c ∷ (digits_next m).0, (digits_next m).1)
    tested (Some d) h k = rw h (taken d (rw h at k))
    tested None h k = cc (ap (λ o. first_passes o (next_are [] us)) h)
one_digit (End place) m c e = cc
one_digit (Stop r) m c e = cc

-- digits in an alphabet
pub one_more_digit : (a : Option Alphabet) (c : ℕ) (ds : List ℕ) → digits_in a (c ∷ ds) ≡ digits_in a (c ∷ []) ++ digits_in a ds
one_more_digit None c ds = refl
one_more_digit (Some a) c ds = simp (append-nil) refl

-- a text that becomes longer, and longer again
pub lengthened_twice : (first second : List ℕ) (xs : List Element) → lengthened second (lengthened first xs) ≡ lengthened (first ++ second) xs
lengthened_twice first second [] = refl
lengthened_twice first second (token t a text ∷ xs) = ap (λ l. token t a l ∷ xs) (append_assoc text first second)
lengthened_twice first second (space width ∷ xs) = refl
lengthened_twice first second (rectangle e ∷ xs) = refl
lengthened_twice first second (container c a ys ∷ xs) = refl
lengthened_twice first second (pair p a x y ∷ xs) = refl
lengthened_twice first second (triple t a x y z ∷ xs) = refl
lengthened_twice first second (table a rows ∷ xs) = refl

pub lengthened_by_nothing : (xs : List Element) → lengthened [] xs ≡ xs
lengthened_by_nothing [] = refl
lengthened_by_nothing (token t a text ∷ xs) = ap (λ l. token t a l ∷ xs) (append-nil text)
lengthened_by_nothing (space width ∷ xs) = refl
lengthened_by_nothing (rectangle e ∷ xs) = refl
lengthened_by_nothing (container c a ys ∷ xs) = refl
lengthened_by_nothing (pair p a x y ∷ xs) = refl
lengthened_by_nothing (triple t a x y z ∷ xs) = refl
lengthened_by_nothing (table a rows ∷ xs) = refl

-- another digit, and those that come next after it
pub one_digit_longer : (a : Option Alphabet) (l m : Units) (c : ℕ) (xs : List Element) → next_are (a_digit ∷ []) l ≡ Some (c ∷ [], m) → lengthened (digits_in a (digits_next m).0) (lengthened (digits_in a (c ∷ [])) xs) ≡ lengthened (digits_in a (digits_next l).0) xs
one_digit_longer a l m c xs e = lengthened_twice (digits_in a (c ∷ [])) (digits_in a (digits_next m).0) xs ∙ ap (λ ds. lengthened ds xs) (sym (one_more_digit a c (digits_next m).0) ∙ ap (λ found. digits_in a found.0) (sym (one_digit l m c e)))

pub no_digit_longer : (a : Option Alphabet) (l : Units) (xs : List Element) → next_are (a_digit ∷ []) l ≡ None → lengthened (digits_in a (digits_next l).0) xs ≡ xs
no_digit_longer None l xs e = ap (λ found. lengthened found.0 xs) (no_digit l e) ∙ lengthened_by_nothing xs
no_digit_longer (Some a) l xs e = ap (λ found. lengthened (digits_in (Some a) found.0) xs) (no_digit l e) ∙ lengthened_by_nothing xs

-- digits after digits
pub digits_together : (a : Option Alphabet) (first second : List ℕ) → digits_in a (first ++ second) ≡ digits_in a first ++ digits_in a second
digits_together None first second = refl
digits_together (Some a) [] second = refl
digits_together (Some a) (d ∷ first) second = simp (digits_together (Some a) first second, append_assoc) refl

-- a number becomes longer, by digits
pub longer_number : (a : Option Alphabet) (first second : List ℕ) (xs ys zs : List Element) → ys ≡ (number a first).element ∷ xs → zs ≡ lengthened (digits_in a second) ys → zs ≡ (number a (first ++ second)).element ∷ xs
longer_number a first second xs ys zs e f = rw (f, e, digits_together a first second) refl

-- a number becomes longer, by a point, a digit, and more digits
pub longer_by_point : (a : Option Alphabet) (first : List ℕ) (c d : ℕ) (more : List ℕ) (xs ys zs us vs : List Element) → ys ≡ (number a first).element ∷ xs → zs ≡ lengthened (digits_in a (c ∷ [])) ys → us ≡ lengthened (digits_in a (d ∷ [])) zs → vs ≡ lengthened (digits_in a more) us → vs ≡ (number a ((first ++ c ∷ d ∷ []) ++ more)).element ∷ xs
longer_by_point a first c d more xs ys zs us vs e f g h =
    let point : zs ≡ (number a (first ++ c ∷ [])).element ∷ xs = longer_number a first (c ∷ []) xs ys zs e f in
    let digit : us ≡ (number a ((first ++ c ∷ []) ++ d ∷ [])).element ∷ xs = longer_number a (first ++ c ∷ []) (d ∷ []) xs zs us point g in
    longer_number a (first ++ c ∷ d ∷ []) more xs us vs (digit ∙ ap (λ ds. (number a ds).element ∷ xs) (append_assoc first (c ∷ []) (d ∷ []))) h

-- how many units are left after the digits that come next
pub no_more_behind_digits : (l : Units) → unit_count (digits_next l).1 ≤ unit_count l
no_more_behind_digits (Next u us) = shortened (is_space_piece u.piece) (a_digit u.piece) (digits_next us) (no_more_behind_digits us)
  where
    shortened : (space : Bool) (digit : Option (List ℕ)) (behind : List ℕ × Units) → unit_count behind.1 ≤ unit_count us → unit_count (digits_here space digit (Next u us) behind).1 ≤ unit_count (Next u us)
    shortened true digit behind h = omega arith
    shortened false (Some digit) behind h = omega arith
    shortened false None behind h = omega arith
no_more_behind_digits (End place) = omega arith
no_more_behind_digits (Stop r) = omega arith
