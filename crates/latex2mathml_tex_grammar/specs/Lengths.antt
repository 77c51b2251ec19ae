-- Lengths: a number of TeX's units of length, as in `-1.5em`, and how many thousandths of an em it is.
use Rattle.std.specs.Prelude.{ℕ, zero, suc, ℤ, pos, negsuc, ◌+◌, ◌-◌, ◌*◌, ◌/◌, ◌==◌, ◌&&◌, Bool, true, false, nat_lt, List, [], ◌∷◌, Option, Some, None, if◌then◌else◌}
use Rattle.std.specs.{Char.is_ascii_digit, Str.byte}

-- what the characters of a length say: its sign, its digits as one number, a factor of ten for each digit after the point,
-- and the two letters of its unit
pub record Length : Type 0 where
  pub is_negative : Bool
  pub number : ℕ
  pub scale : ℕ
  pub is_behind_point : Bool
  pub first : ℕ
  pub last : ℕ

-- a length before its first character
abbrev pub no_length : Length
no_length = record { is_negative = false; number = 0; scale = 1; is_behind_point = false; first = 0; last = 0 }

-- a number, or `most` if it is greater: all greater numbers are alike, since each is too large
abbrev pub at_most : ℕ → ℕ → ℕ
at_most most n = if nat_lt most n then most else n

-- the largest value of the digits; greater ones count as this
abbrev pub most_digits : ℕ
most_digits = 100000000000

-- the largest factor for the digits after the point
abbrev pub most_scale : ℕ
most_scale = 1000000

-- by what the digits are divided, after one more digit
abbrev pub scaled : Bool → ℕ → ℕ
scaled true scale = at_most most_scale (scale * 10)
scaled false scale = scale

-- a length after one more of its characters
abbrev pub with_character : Length → ℕ → Length
with_character l c =
    if is_ascii_digit c then record l { number = at_most most_digits (l.number * 10 + (c - byte "0")); scale = scaled l.is_behind_point l.scale }
    else if c == byte "." then record l { is_behind_point = true }
    else if c == byte "-" then record l { is_negative = true }
    else record l { first = l.last; last = c }

-- a length with these further characters
abbrev pub with_all : Length → List ℕ → Length
with_all l [] = l
with_all l (c ∷ cs) = with_all (with_character l c) cs

-- the length that these characters spell
abbrev pub length_of : List ℕ → Length
length_of cs = with_all no_length cs

-- a divided by b, rounded to the nearest number
abbrev pub rounded : ℕ → ℕ → ℕ
rounded a b = (2 * a + b) / (2 * b)

-- the thousandths of an em, without the sign. As in KaTeX, an em is 10 points, and an ex 0.431 em. A pixel is a big point.
abbrev pub thousandths_of : ℕ → ℕ → ℕ → ℕ → ℕ
thousandths_of first last number scale =
    if first == byte "e" && last == byte "x" then rounded (number * 431) scale
    else if first == byte "m" && last == byte "u" then rounded (number * 1000) (scale * 18)
    else if first == byte "p" && last == byte "t" then rounded (number * 100) scale
    else if first == byte "p" && last == byte "c" then rounded (number * 1200) scale
    else if first == byte "i" && last == byte "n" then rounded (number * 7227) scale
    else if first == byte "c" && last == byte "m" then rounded (number * 722700) (scale * 254)
    else if first == byte "m" && last == byte "m" then rounded (number * 72270) (scale * 254)
    else if first == byte "b" && last == byte "p" then rounded (number * 803) (scale * 8)
    else if first == byte "p" && last == byte "x" then rounded (number * 803) (scale * 8)
    else if first == byte "d" && last == byte "d" then rounded (number * 123800) (scale * 1157)
    else if first == byte "c" && last == byte "c" then rounded (number * 1485600) (scale * 1157)
    else if first == byte "s" && last == byte "p" then rounded (number * 100) (scale * 65536)
    else rounded (number * 1000) scale

-- minus this number
abbrev pub negated : ℕ → ℤ
negated zero = pos 0
negated (suc n) = negsuc n

-- this number with its sign
abbrev pub signed : Bool → ℕ → ℤ
signed true n = negated n
signed false n = pos n

-- the greatest length, in thousandths of an em: 16384 points, as in TeX
abbrev pub most_thousandths : ℕ
most_thousandths = 1638400

-- this number with its sign, unless it is too large
abbrev pub within_most : Bool → ℕ → Option ℤ
within_most is_negative n = if nat_lt most_thousandths n then None else Some (signed is_negative n)

-- the width of a length, in thousandths of an em, if it is one and not too large
abbrev pub width_in : Length → Option ℤ
width_in l = within_most l.is_negative (thousandths_of l.first l.last l.number l.scale)

-- the thousandths of an em in a length of these characters, unless it is too large
abbrev pub width_of : List ℕ → Option ℤ
width_of cs = width_in (length_of cs)
