-- The width of a space, in ems, from its eighteenths: rounded to the nearest thousandth.
use Rattle.std.specs.Prelude.{◌≡◌, ℕ, suc, ℤ, pos, negsuc, ◌+◌, ◌*◌, ◌/◌, ◌%◌, ◌<◌, List, [], ◌∷◌, ◌++◌, if◌then◌else◌, ◌==◌}
use Rattle.std.specs.{Fmt.decimal, Str.byte}

-- the thousandths of an em in n eighteenths, rounded to the nearest
abbrev pub thousandths : ℕ → ℕ
thousandths n = (n * 1000 + 9) / 18

-- t thousandths are less than half a thousandth away from n eighteenths
abbrev pub IsNearest : ℕ → ℕ → Type 0
IsNearest n t = (18 * t < 1000 * n + 9) × (1000 * n < 18 * t + 9)

-- for every number of eighteenths the thousandths are nearest, and no other number is as near: no tie can arise
abbrev pub WidthsAreNearest : Type 0
WidthsAreNearest = (n : ℕ) → IsNearest n (thousandths n) × ((t : ℕ) → IsNearest n t → t ≡ thousandths n)

-- the digit of a number below 10
abbrev pub digit : ℕ → ℕ
digit n = byte "0" + n

-- the last three digits of a number
abbrev pub three_digits : ℕ → List ℕ
three_digits n = digit (n / 100 % 10) ∷ digit (n / 10 % 10) ∷ digit (n % 10) ∷ []

-- puts a digit before the digits that were kept; a zero is dropped if no digit was kept
abbrev pub keep : ℕ → List ℕ → List ℕ
keep d [] = if d == byte "0" then [] else d ∷ []
keep d (next ∷ kept) = d ∷ next ∷ kept

-- the digits without the zeros at their end
abbrev pub trimmed : List ℕ → List ℕ
trimmed [] = []
trimmed (d ∷ digits) = keep d (trimmed digits)

-- a period and the digits, or nothing if there are no digits
abbrev pub after_point : List ℕ → List ℕ
after_point [] = []
after_point (d ∷ digits) = byte "." ∷ d ∷ digits

-- a number of thousandths as a decimal fraction
abbrev pub thousandths_text : ℕ → List ℕ
thousandths_text t = decimal (t / 1000) ++ after_point (trimmed (three_digits (t % 1000)))

-- the width, with a minus sign if it is negative
abbrev pub width_text : ℤ → List ℕ
width_text (pos n) = thousandths_text (thousandths n)
width_text (negsuc n) = byte "-" ∷ thousandths_text (thousandths (suc n))
