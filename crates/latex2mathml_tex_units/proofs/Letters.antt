-- The letters at the start of a text, byte by byte.
use Rattle.std.proofs.Common.{◌≡◌, ◌∙◌, ℕ, zero, suc, ◌<◌, ◌≤◌, true, false, List, [], ◌∷◌, ◌++◌, take, drop, get_or, length, inl, inr, refl, sym, ap, subst, add-one, arith}
use Rattle.std.proofs.lemmas.Bool.{cases_Bool}
use Rattle.std.proofs.lemmas.Bool.Decides.{nat_tests}
use Rattle.std.proofs.lemmas.Str.{chars_past_char, encode_ascii, encodes-chars, IsCharBoundary-after_ascii, IsCharBoundary-start, IsUtf8-past_char}
use Rattle.std.specs.{Char.is_ascii_alphabetic}
use Rattle.std.specs.Str.{chars, encode_utf8_all, IsUtf8, IsCharBoundary}
use Rattle.latex2mathml_tex_grammar.specs.Units.{Stops, head}
use Rattle.latex2mathml_tex_units.specs.Runs.{AreLetters, IsName}

pub is_one_byte : (c : ℕ) → is_ascii_alphabetic c ≡ true → c < 128
is_one_byte c h = grind (arith, nat_tests)

-- the text may be cut after letters
pub cut : (text : List ℕ) (n : ℕ) → IsUtf8 text → n ≤ length text → AreLetters text n → IsCharBoundary text n
cut text zero u h letters = IsCharBoundary-start text u
cut text (suc n) u h letters = subst (IsCharBoundary text) (add-one n) (IsCharBoundary-after_ascii text n u (omega (arith, h)) (is_one_byte _ (letters n (omega arith))))

-- no letter follows
no_letter_of : (cs text : List ℕ) → encode_utf8_all cs ≡ text → (0 < length text → is_ascii_alphabetic (get_or text 0 0) ≡ false) → Stops is_ascii_alphabetic (head cs)
no_letter_of [] text e end = tt
no_letter_of (c ∷ cs) text e end = elim (cases_Bool (is_ascii_alphabetic c)) [
  | inl h ↦ (
      let begins : text ≡ c ∷ encode_utf8_all cs = sym e ∙ ap (λ bs. bs ++ encode_utf8_all cs) (encode_ascii c (is_one_byte c h)) in
      subst (λ t. 0 < length t → is_ascii_alphabetic (get_or t 0 0) ≡ false) begins end (omega arith))
  | inr h ↦ h
]

-- the first n characters are the first n bytes, and are the longest run of letters
pub letters_are : (n : ℕ) (text : List ℕ) → IsUtf8 text → n ≤ length text → AreLetters text n → (n < length text → is_ascii_alphabetic (get_or text n 0) ≡ false) → IsName (chars text) (take n text) (take n text) (chars (drop n text))
letters_are zero text u h letters end = record { whole = refl; run = record { passes = tt; ends = no_letter_of (chars text) text (encodes-chars text u) end }; bytes = refl }
letters_are (suc n) [] u h letters end = absurd (omega (arith, h))
letters_are (suc n) (b ∷ text) u h letters end =
    let letter : is_ascii_alphabetic b ≡ true = letters 0 (omega arith) in
    let one = encode_ascii b (is_one_byte b letter) in
    let begins = ap (λ bs. bs ++ text) (sym one) in
    let rest = letters_are n text (IsUtf8-past_char (b ∷ text) text b u begins) (omega (arith, h)) (λ i less. letters (suc i) (omega (arith, less))) (λ less. end (omega (arith, less))) in
    record {
      whole = chars_past_char (b ∷ text) text b u begins ∙ ap (λ cs. b ∷ cs) rest.whole;
      run = record { passes = (letter, rest.run.passes); ends = rest.run.ends };
      bytes = ap (λ bs. b ∷ bs) rest.bytes ∙ ap (λ bs. bs ++ encode_utf8_all (take n text)) (sym one);
    }
