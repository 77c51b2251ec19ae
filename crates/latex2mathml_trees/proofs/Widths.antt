-- The digits after the period of a width, and how near a width is.
use Rattle.std.proofs.Common.{◌≡◌, ◌≢◌, ℕ, ◌/◌, ◌%◌, ◌∷◌, ◌++◌, arith}
use Rattle.std.specs.Fmt.{decimal}
use Rattle.std.proofs.{lemmas.Bool.Decides.nat_tests, lemmas.Fmt.decimal_digit, lemmas.Grind.put_two}
use Rattle.latex2mathml_trees.specs.Width.{thousandths, thousandths_text, IsNearest}

pub three_digits_left : (t : ℕ) → t % 1000 % 10 ≢ 0 → decimal (t / 1000) ++ (46 ∷ (decimal (t % 1000 / 100 % 10) ++ (decimal (t % 1000 / 10 % 10) ++ decimal (t % 1000 % 10)))) ≡ thousandths_text t
three_digits_left t h = grind (arith, nat_tests, decimal_digit)

pub two_digits_left : (t : ℕ) → t % 1000 % 10 ≡ 0 → t % 1000 / 10 % 10 ≢ 0 → decimal (t / 1000) ++ (46 ∷ (decimal (t % 1000 / 100 % 10) ++ decimal (t % 1000 / 10 % 10))) ≡ thousandths_text t
two_digits_left t e h = grind (arith, nat_tests, decimal_digit)

pub one_digit_left : (t : ℕ) → t % 1000 % 10 ≡ 0 → t % 1000 / 10 % 10 ≡ 0 → t % 1000 / 100 % 10 ≢ 0 → decimal (t / 1000) ++ (46 ∷ decimal (t % 1000 / 100 % 10)) ≡ thousandths_text t
one_digit_left t e f h = grind (arith, nat_tests, decimal_digit)

pub ruleset digits_left = (three_digits_left, two_digits_left, one_digit_left, put_two)

pub nearest : (n : ℕ) → IsNearest n (thousandths n)
nearest n = (omega arith, omega arith)

pub only_nearest : (n t : ℕ) → IsNearest n t → t ≡ thousandths n
only_nearest n t h = omega (arith, h.0, h.1)
