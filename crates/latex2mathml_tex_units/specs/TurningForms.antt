-- The first two bytes and the lengths of the names of usual macros and of the words that begin definitions.
use Rattle.std.specs.Prelude.{ℕ, ◌==◌, ◌&&◌, ◌||◌, Bool, nat_lt, false, List, [], ◌∷◌, if◌then◌else◌}
use Rattle.std.specs.Str.{byte}

-- whether the name of a usual macro or of such a word, which begins with a capital letter, has these first two bytes and this length
abbrev pub turns_capital : ℕ → ℕ → ℕ → Bool
turns_capital first second len =
    if first == byte "A" then second == byte "c" && len == 5
    else if first == byte "B" then (if second == byte "a" then len == 3 else if second == byte "b" then len == 4 else if second == byte "r" then len == 3 || len == 5 || len == 6 else false)
    else if first == byte "C" then (if second == byte "h" then len == 5 else if second == byte "o" then len == 7 || len == 8 || len == 11 else false)
    else if first == byte "D" then (if second == byte "O" then len == 5 else if second == byte "d" then len == 4 else if second == byte "o" then len == 3 else if second == byte "e" then len == 19 || len == 20 || len == 22 else false)
    else if first == byte "E" then second == byte "q" && (len == 7 || len == 8)
    else if first == byte "G" then second == byte "r" && len == 5
    else if first == byte "H" then second == byte "a" && len == 3
    else if first == byte "K" then (if second == byte "a" then len == 5 else if second == byte "e" then len == 3 || len == 6 else false)
    else if first == byte "L" then second == byte "a" && len == 5
    else if first == byte "S" then second == byte "e" && len == 3
    else if first == byte "T" then (if second == byte "e" then len == 3 else if second == byte "i" then len == 5 else false)
    else if first == byte "V" then second == byte "e" && len == 3
    else false

-- the same of those that begin with a small letter before m
abbrev pub turns_up_to_l : ℕ → ℕ → ℕ → Bool
turns_up_to_l first second len =
    if first == byte "a" then (if second == byte "d" then len == 12 else if second == byte "l" then len == 10 || len == 18 else if second == byte "p" then len == 11 || len == 16 else if second == byte "r" then len == 5 else false)
    else if first == byte "b" then (if second == byte "b" then len == 4 else if second == byte "e" then len == 10 else if second == byte "f" then len == 8 else if second == byte "g" then len == 6 else if second == byte "i" then len == 7 else if second == byte "m" then len == 4 else if second == byte "r" then len == 3 || len == 6 else if second == byte "u" then len == 8 else false)
    else if first == byte "c" then (if second == byte "a" then len == 8 else if second == byte "e" then len == 7 || len == 9 else if second == byte "l" then len == 4 || len == 5 else if second == byte "s" then len == 5 else if second == byte "o" then len == 5 || len == 7 || len == 8 || len == 10 || len == 11 || len == 13 || len == 15 || len == 16 else false)
    else if first == byte "d" then (if second == byte "d" then len == 6 else if second == byte "e" then len == 3 else if second == byte "i" then len == 12 else if second == byte "o" then len == 5 else false)
    else if first == byte "e" then (if second == byte "g" then len == 6 else if second == byte "m" then len == 2 else if second == byte "n" then len == 8 || len == 10 else if second == byte "q" then len == 4 || len == 7 || len == 9 || len == 16 else false)
    else if first == byte "f" then second == byte "b" && len == 4
    else if first == byte "g" then (if second == byte "d" then len == 4 else if second == byte "l" then len == 6 else false)
    else if first == byte "h" then (if second == byte "d" then len == 5 else if second == byte "f" then len == 4 || len == 5 || len == 6 else if second == byte "r" then len == 4 else if second == byte "t" then len == 6 || len == 8 || len == 9 else false)
    else if first == byte "i" then (if second == byte "d" then len == 8 else if second == byte "f" then len == 3 else if second == byte "g" then len == 12 else if second == byte "m" then len == 7 || len == 9 else if second == byte "n" then len == 5 || len == 9 else if second == byte "t" then len == 7 else false)
    else if first == byte "k" then second == byte "e" && (len == 3 || len == 6)
    else if first == byte "l" then (if second == byte "a" then len == 5 else if second == byte "e" then len == 3 || len == 5 || len == 7 || len == 8 || len == 10 else if second == byte "i" then len == 9 else if second == byte "l" then len == 4 else if second == byte "o" then len == 4 || len == 5 else if second == byte "q" then len == 2 else false)
    else false

-- the same of those that begin with m or after it
abbrev pub turns_from_m : ℕ → ℕ → ℕ → Bool
turns_from_m first second len =
    if first == byte "m" then (if second == byte "a" then len == 6 || len == 9 || len == 11 || len == 12 else if second == byte "d" then len == 8 else if second == byte "e" then len == 7 else if second == byte "i" then len == 15 else if second == byte "o" then len == 3 else false)
    else if first == byte "n" then (if second == byte "e" then len == 10 else if second == byte "i" then len == 8 else if second == byte "o" then len == 5 || len == 7 || len == 8 || len == 10 || len == 11 else if second == byte "u" then len == 4 else false)
    else if first == byte "o" then (if second == byte "p" then len == 7 || len == 22 else if second == byte "v" then len == 12 else false)
    else if first == byte "p" then (if second == byte "a" then len == 9 else if second == byte "m" then len == 4 || len == 7 else if second == byte "o" then len == 3 else if second == byte "r" then len == 7 || len == 9 || len == 14 else false)
    else if first == byte "q" then second == byte "e" && (len == 3 || len == 7)
    else if first == byte "r" then (if second == byte "a" then len == 5 || len == 8 else if second == byte "m" then len == 8 else if second == byte "o" then len == 4 else if second == byte "e" then len == 5 || len == 7 || len == 12 else if second == byte "l" then len == 4 else if second == byte "q" then len == 2 else false)
    else if first == byte "s" then (if second == byte "b" then len == 2 else if second == byte "c" then len == 2 || len == 3 || len == 7 else if second == byte "e" then len == 3 || len == 9 else if second == byte "f" then len == 5 || len == 8 else if second == byte "h" then len == 9 || len == 10 || len == 14 else if second == byte "i" then len == 7 || len == 8 || len == 13 else if second == byte "k" then len == 4 else if second == byte "l" then len == 2 || len == 5 || len == 7 else if second == byte "m" then len == 9 else if second == byte "t" then len == 5 else if second == byte "p" then len == 2 || len == 9 || len == 10 else false)
    else if first == byte "t" then (if second == byte "a" then len == 3 else if second == byte "e" then len == 13 || len == 15 else if second == byte "t" then len == 8 else false)
    else if first == byte "u" then (if second == byte "n" then len == 6 else if second == byte "p" then len == 6 || len == 7 else false)
    else if first == byte "v" then (if second == byte "a" then len == 5 || len == 6 || len == 8 || len == 9 || len == 10 else if second == byte "c" then len == 7 else if second == byte "s" then len == 6 else if second == byte "v" then len == 2 else false)
    else if first == byte "x" then second == byte "s" && len == 6
    else false

-- whether the name of a usual macro or of such a word has these first two bytes and this length
abbrev pub is_turning_form : ℕ → ℕ → ℕ → Bool
is_turning_form first second len =
    if nat_lt first (byte "a") then turns_capital first second len
    else if nat_lt first (byte "m") then turns_up_to_l first second len
    else turns_from_m first second len

-- whether a name has six bytes, of which the first and the fourth are those of `mathbb`, or three or five, of which the first and
-- the last are those of `leq` or `infty`
abbrev pub is_frequent : List ℕ → Bool
is_frequent (a ∷ b ∷ c ∷ d ∷ e ∷ f ∷ []) = a == byte "m" && d == byte "h"
is_frequent (a ∷ b ∷ c ∷ d ∷ e ∷ []) = a == byte "i" && e == byte "y"
is_frequent (a ∷ b ∷ c ∷ []) = a == byte "l" && c == byte "q"
is_frequent name = false
