-- Markup of elements that hold a short text, and bytes that contents hold as they are.
use Rattle.std.proofs.Common.{codes, ◌≡◌, ℕ, true, List, [], ◌∷◌, ◌++◌, arith, length, nat_lt, refl, slice_index_or}
use Rattle.std.proofs.lemmas.Bool.{ltb-true}
use Rattle.std.proofs.lemmas.List.{Elements.All-weaker, Sums.AllPass-from_list_all}
use Rattle.std.proofs.lemmas.Str.{Ascii.IsAscii-from_all, IsAscii-append, IsUtf8-append, IsUtf8-from_ascii}
use Rattle.std.specs.{List.list_all, Str.IsAscii, Str.IsUtf8}
use Rattle.latex2mathml_builder.specs.Names.{short_end, short_start}

-- markup that is known is seen to be ASCII
pub ascii_markup : (bs : List ℕ) → list_all (λ b. nat_lt b 128) bs ≡ true → IsAscii bs
ascii_markup bs h =
    IsAscii-from_all bs (All-weaker _ _ (λ b is. ltb-true b 128 is) bs (AllPass-from_list_all (λ b. nat_lt b 128) bs h))

-- the tags of elements whose names have two letters
pub start_is_text : (letter : ℕ) → IsAscii (letter ∷ []) → IsUtf8 (short_start letter)
start_is_text letter h =
    IsUtf8-from_ascii _ (IsAscii-append (codes "<m") (letter ∷ codes ">") (ascii_markup (codes "<m") refl) (IsAscii-append (letter ∷ []) (codes ">") h (ascii_markup (codes ">") refl)))

pub end_is_text : (letter : ℕ) → IsAscii (letter ∷ []) → IsUtf8 (short_end letter)
end_is_text letter h =
    IsUtf8-from_ascii _ (IsAscii-append (codes "</m") (letter ∷ codes ">") (ascii_markup (codes "</m") refl) (IsAscii-append (letter ∷ []) (codes ">") h (ascii_markup (codes ">") refl)))

-- such an element with a text
pub short_is_text : (letter : ℕ) (text : List ℕ) → IsAscii (letter ∷ []) → IsUtf8 text → IsUtf8 (short_start letter ++ (text ++ short_end letter))
short_is_text letter text h is =
    IsUtf8-append (short_start letter) (text ++ short_end letter) (start_is_text letter h) (IsUtf8-append text (short_end letter) is (end_is_text letter h))

-- a text and the end tag of an operator
pub ended_is_text : (text : List ℕ) → IsUtf8 text → IsUtf8 (text ++ codes "</mo>")
ended_is_text text is =
    IsUtf8-append text (codes "</mo>") is (IsUtf8-from_ascii _ (ascii_markup (codes "</mo>") refl))

-- a text of one, two or three bytes is these
pub one_byte : (bytes : List ℕ) → length bytes ≡ 1 → IsUtf8 bytes → IsUtf8 (slice_index_or bytes 0 0 ∷ [])
one_byte [] h is = absurd (omega arith)
one_byte (a ∷ []) h is = is
one_byte (a ∷ b ∷ bytes) h is = absurd (omega arith)

pub two_bytes : (bytes : List ℕ) → length bytes ≡ 2 → IsUtf8 bytes → IsUtf8 (slice_index_or bytes 0 0 ∷ slice_index_or bytes 1 0 ∷ [])
two_bytes [] h is = absurd (omega arith)
two_bytes (a ∷ []) h is = absurd (omega arith)
two_bytes (a ∷ b ∷ []) h is = is
two_bytes (a ∷ b ∷ c ∷ bytes) h is = absurd (omega arith)

pub three_bytes : (bytes : List ℕ) → length bytes ≡ 3 → IsUtf8 bytes → IsUtf8 (slice_index_or bytes 0 0 ∷ slice_index_or bytes 1 0 ∷ slice_index_or bytes 2 0 ∷ [])
three_bytes [] h is = absurd (omega arith)
three_bytes (a ∷ []) h is = absurd (omega arith)
three_bytes (a ∷ b ∷ []) h is = absurd (omega arith)
three_bytes (a ∷ b ∷ c ∷ []) h is = is
three_bytes (a ∷ b ∷ c ∷ d ∷ bytes) h is = absurd (omega arith)
