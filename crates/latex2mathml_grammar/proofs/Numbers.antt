-- A number at the front of a text: digits, and at most one period among them.
use Rattle.std.proofs.Common.{◌≡◌, ℕ, true, IsTrue, cond, List, [], ◌∷◌, ◌++◌, refl, sym, ap, ◌∙◌, arith, append_assoc, append-nil}
use Rattle.std.proofs.{lemmas.Bool.Decides.nat_tests, lemmas.List.Elements.All-append, lemmas.List.Elements.All-cons, lemmas.List.Elements.All-weaker, lemmas.List.Sums.list_all-from_AllPass, lemmas.List.Sums.sum_by-append}
use Rattle.std.specs.{Char.is_ascii_digit, Str.byte, List.AllPass, List.list_all, Prelude.count_by}
use Rattle.latex2mathml_grammar.specs.{Beginnings.BeginsWithNumber, Beginnings.IsLongestRun, Characters.Begins, Characters.Stops, Characters.head}
use Rattle.latex2mathml_grammar.specs.Spelling.{IsNumber, is_period, is_digit_or_period}
use Rattle.latex2mathml_grammar.proofs.{Counting.count_one}

digits_pass : (ds : List ℕ) → AllPass is_ascii_digit ds → AllPass is_digit_or_period ds
digits_pass ds h = All-weaker (λ x. is_ascii_digit x ≡ true) (λ x. is_digit_or_period x ≡ true) (λ c d. rw d) ds h

periods-digits : (ds : List ℕ) → IsTrue (list_all is_ascii_digit ds) → count_by is_period ds ≡ 0
periods-digits [] h = refl
periods-digits (d ∷ ds) h = grind (arith, nat_tests, count_one is_period d ds, periods-digits ds)

-- where a text begins with a digit, so does its run of digits, whatever follows it
Begins-run : (text front back more : List ℕ) → IsLongestRun is_ascii_digit text front back → Begins is_ascii_digit text → Begins is_ascii_digit (front ++ more)
Begins-run text [] back more run begins = grind arith
Begins-run text (d ∷ ds) back more run begins = grind (arith, list_all-from_AllPass is_ascii_digit (d ∷ ds) run.1)

-- digits with no period after them
pub digits_alone : (text front back : List ℕ) → IsLongestRun is_ascii_digit text front back → Begins is_ascii_digit text → Stops is_period (head back) → BeginsWithNumber text back
digits_alone text front back run begins stops =
    let is : IsNumber front (head back) = record {
      begins = rw append-nil at (Begins-run text front back [] run begins);
      holds = digits_pass front run.1;
      at_most_one = rw (periods-digits front (list_all-from_AllPass is_ascii_digit front run.1)) (omega arith);
      ends = run.2;
      longest = λ _. stops;
    } in
    (front, run.0, is)

-- digits, a period, and the digits that follow it
pub digits_with_period : (text front back after part rest : List ℕ) → IsLongestRun is_ascii_digit text front back → Begins is_ascii_digit text → back ≡ byte "." ∷ after → IsLongestRun is_ascii_digit after part rest → BeginsWithNumber text rest
digits_with_period text front back after part rest run begins e more =
    let whole : text ≡ (front ++ byte "." ∷ part) ++ rest = run.0 ∙ ap (λ b. front ++ b) (e ∙ ap (λ a. byte "." ∷ a) more.0) ∙ sym (append_assoc front (byte "." ∷ part) rest) in
    let one : count_by is_period (front ++ byte "." ∷ part) ≡ 1 = omega (arith, sum_by-append (λ c. cond (is_period c) 1 0) front (byte "." ∷ part), count_one is_period (byte ".") part, periods-digits front (list_all-from_AllPass is_ascii_digit front run.1), periods-digits part (list_all-from_AllPass is_ascii_digit part more.1)) in
    let is : IsNumber (front ++ byte "." ∷ part) (head rest) = record {
      begins = Begins-run text front back (byte "." ∷ part) run begins;
      holds = All-append (λ x. is_digit_or_period x ≡ true) front (byte "." ∷ part) (digits_pass front run.1) (All-cons (λ x. is_digit_or_period x ≡ true) (byte ".") part refl (digits_pass part more.1));
      at_most_one = omega arith;
      ends = more.2;
      longest = λ h. absurd (omega arith);
    } in
    (front ++ byte "." ∷ part, whole, is)
