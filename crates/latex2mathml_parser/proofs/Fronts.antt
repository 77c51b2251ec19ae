-- The first character of a text, and what precedes its end, byte by byte.
use Rattle.std.proofs.Common.{◌≡◌, ℕ, ◌+◌, ◌-◌, ◌<◌, ◌≤◌, List, [], ◌∷◌, ◌++◌, take, drop, eqb, length, inl, inr, true, false, true-eqb, Option, None, Some, refl, sym, ap, ◌∙◌, arith}
use Rattle.std.proofs.{Math.Seq.take-append_seam, lemmas.List.length-append, lemmas.Bool.cases_lt, lemmas.Bool.Decides.nat_tests}
use Rattle.std.proofs.lemmas.Str.{chars_past_char, encode_ascii, encodes-append, encodes-chars, IsCharBoundary-after_ascii, IsCharBoundary-at_seam}
use Rattle.std.specs.{Char.is_ascii, Prelude.slice_get}
use Rattle.latex2mathml_parser.specs.Lexing.{in_class}
use Rattle.latex2mathml_parser.specs.declared.lexer.characters.Class.{Class}
use Rattle.latex2mathml_parser.specs.declared.lexer.characters.Class.TheVariants.{Space, Digit, Letter}
use Rattle.std.specs.Str.{chars, encode_utf8_all, IsUtf8, IsCharBoundary}
use Rattle.latex2mathml_grammar.specs.Characters.{Stops, head}

-- a text that begins with an ASCII byte may be cut after it, and begins with that character
pub first_byte : (text : List ℕ) (b : ℕ) → IsUtf8 text → slice_get text 0 ≡ Some b → b < 128 → IsCharBoundary text 1 × (chars text ≡ b ∷ chars (drop 1 text))
first_byte [] b u e l = absurd cc
first_byte (x ∷ xs) b u e l =
    let same : x ≡ b = cc in
    (IsCharBoundary-after_ascii (x ∷ xs) 0 u (omega arith) (omega arith), chars_past_char (x ∷ xs) xs b u (rw (encode_ascii b l) (cc same)))

-- where the end of a text begins, which is a place between two characters, and what precedes it
pub ends_at : (text rest front : List ℕ) → IsUtf8 text → IsUtf8 rest → chars text ≡ front ++ chars rest → (length rest ≤ length text) × IsCharBoundary text (length text - length rest) × (take (length text - length rest) text ≡ encode_utf8_all front)
ends_at text rest front u v e =
    let bytes : text ≡ encode_utf8_all front ++ rest = sym (encodes-chars text u) ∙ ap encode_utf8_all e ∙ encodes-append front (chars rest) ∙ ap (λ b. encode_utf8_all front ++ b) (encodes-chars rest v) in
    let whole : length text ≡ length (encode_utf8_all front) + length rest = ap length bytes ∙ length-append (encode_utf8_all front) rest in
    let seam : length text - length rest ≡ length (encode_utf8_all front) = omega arith in
    (omega arith, rw seam (IsCharBoundary-at_seam text (encode_utf8_all front) rest bytes v), rw seam (ap (take (length (encode_utf8_all front))) bytes ∙ take-append_seam (encode_utf8_all front) rest))

-- a text without bytes has no characters
pub no_characters : (text : List ℕ) → true ≡ eqb (length text) 0 → chars text ≡ []
unfolding chars
no_characters [] e = refl
no_characters (b ∷ text) e = absurd (let k : length (b ∷ text) ≡ 0 = true-eqb _ _ e in cc)

wide_of : (cs text : List ℕ) → encode_utf8_all cs ≡ text → ((b : ℕ) → slice_get text 0 ≡ Some b → 128 ≤ b) → Stops is_ascii (head cs)
wide_of [] text e wide = tt
wide_of (c ∷ cs) text e wide = elim (cases_lt c 128) [
  | inl h ↦ (let g : text ≡ c ∷ encode_utf8_all cs = sym e ∙ ap (λ bs. bs ++ encode_utf8_all cs) (encode_ascii c h) in
      let other = wide c (ap (λ t. slice_get t 0) g) in absurd (omega arith))
  | inr h ↦ grind (arith, nat_tests)
]

-- a text that does not begin with an ASCII byte does not begin with an ASCII character
pub wide_first : (text : List ℕ) → IsUtf8 text → ((b : ℕ) → slice_get text 0 ≡ Some b → 128 ≤ b) → Stops is_ascii (head (chars text))
wide_first text u wide = wide_of (chars text) text (encodes-chars text u) wide

-- all classes are of ASCII characters

below : (class : Class) (c : ℕ) → in_class class c ≡ true → c < 128
below Space c h = grind (arith, nat_tests)
below Digit c h = grind (arith, nat_tests)
below Letter c h = grind (arith, nat_tests)

outside : (class : Class) (c : Option ℕ) → Stops is_ascii c → Stops (in_class class) c
outside class None h = tt
outside Space (Some c) h = grind (arith, nat_tests)
outside Digit (Some c) h = grind (arith, nat_tests)
outside Letter (Some c) h = grind (arith, nat_tests)

-- a text that begins with a byte of a class may be cut after it, and begins with that character
pub first_of_class : (class : Class) (text : List ℕ) (b : ℕ) → IsUtf8 text → slice_get text 0 ≡ Some b → in_class class b ≡ true → IsCharBoundary text 1 × (chars text ≡ b ∷ chars (drop 1 text))
first_of_class class text b u e h = first_byte text b u e (below class b h)

-- a text that does not begin with a byte of a class does not begin with a character of it
pub none_of_class : (class : Class) (text : List ℕ) → IsUtf8 text → ((b : ℕ) → slice_get text 0 ≡ Some b → in_class class b ≡ false) → Stops (in_class class) (head (chars text))
none_of_class class [] u others = outside class (head (chars [])) (wide_first [] u (λ b e. absurd cc))
none_of_class class (x ∷ xs) u others = elim (cases_lt x 128) [
  | inl h ↦ rw (first_byte (x ∷ xs) x u refl h).1 (others x refl)
  | inr h ↦ outside class (head (chars (x ∷ xs))) (wide_first (x ∷ xs) u (λ b e. let same : x ≡ b = cc in omega arith))
]
