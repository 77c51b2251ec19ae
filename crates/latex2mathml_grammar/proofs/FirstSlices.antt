-- Each slice that spells a token at the front of a text is the text's first slice.
use Rattle.std.proofs.Common.{◌≡◌, ℕ, ◌≤◌, Bool, true, false, IsTrue, List, [], ◌∷◌, ◌++◌, refl, arith}
use Rattle.std.proofs.{lemmas.Bool.Decides.nat_tests, lemmas.List.Sums.list_all-from_AllPass}
use Rattle.std.specs.{Char.is_ascii_digit, Char.is_ascii_alphabetic, List.AllPass, List.list_all, Prelude.count_by}
use Rattle.latex2mathml_grammar.specs.Characters.{Stops, head}
use Rattle.latex2mathml_grammar.proofs.{Counting.count_one}
use Rattle.latex2mathml_grammar.specs.Cutting.{run_of, behind_run, number_of, first_slice, slice, numbered}
use Rattle.latex2mathml_grammar.specs.Spelling.{SpellsAt, IsNumber, is_period, is_digit_or_period}
use Rattle.latex2mathml_tokens.specs.Tok.{Tok}

-- a run of characters that pass the test, and what follows it
pub parted : (p : ℕ → Bool) (w rest : List ℕ) → IsTrue (list_all p w) → Stops p (head rest) → (run_of p (w ++ rest) ≡ w) × (behind_run p (w ++ rest) ≡ rest)
parted p [] rest pass stops = grind arith
parted p (c ∷ w) rest pass stops = grind (arith, parted p w rest)

-- a text of digits and periods that holds no period is all digits
all_digits : (w : List ℕ) → IsTrue (list_all is_digit_or_period w) → count_by is_period w ≡ 0 → IsTrue (list_all is_ascii_digit w)
all_digits [] pass none = refl
all_digits (c ∷ w) pass none = grind (arith, nat_tests, count_one is_period c w, all_digits w)

number_whole : (w rest : List ℕ) → IsTrue (list_all is_digit_or_period w) → count_by is_period w ≤ 1 → Stops is_ascii_digit (head rest) → (count_by is_period w ≡ 0 → Stops is_period (head rest)) → number_of (w ++ rest) ≡ w
number_whole [] rest pass most ends longest = grind (arith, longest refl)
number_whole (c ∷ w) rest pass most ends longest = grind (arith, nat_tests, count_one is_period c w, number_whole w rest, parted is_ascii_digit w rest, all_digits w)

number_first : (w rest : List ℕ) → IsNumber w (head rest) → first_slice false (w ++ rest) ≡ numbered w
number_first [] rest n = absurd n.begins
number_first (c ∷ w) rest n =
    grind (arith, nat_tests, n.begins, number_whole (c ∷ w) rest (list_all-from_AllPass is_digit_or_period (c ∷ w) n.holds) n.at_most_one n.ends n.longest)

letters_first : (c : ℕ) (cs rest : List ℕ) → AllPass is_ascii_alphabetic (c ∷ cs) → Stops is_ascii_alphabetic (head rest) → (is_ascii_alphabetic c ≡ true) × (run_of is_ascii_alphabetic (cs ++ rest) ≡ cs)
letters_first c cs rest pass stops = grind (arith, list_all-from_AllPass is_ascii_alphabetic (c ∷ cs) pass, parted is_ascii_alphabetic cs rest)

-- what spells a token at the front of a text is its first slice
pub slice_of : (alone : Bool) (w rest : List ℕ) (t : Tok) → SpellsAt alone w (head rest) t → first_slice alone (w ++ rest) ≡ slice w t
slice_of alone w rest t spells = grind (arith, nat_tests, number_first w rest, letters_first)
