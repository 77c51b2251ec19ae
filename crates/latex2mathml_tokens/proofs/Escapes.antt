-- Escapes of characters and of texts: escaping by characters equals escaping by bytes, since only ASCII is escaped.
use Rattle.std.proofs.Common.{◌≡◌, ◌≢◌, ℕ, suc, ◌<◌, List, [], ◌∷◌, ◌++◌, length, get_or, refl, sym, ap, ◌∙◌, arith, append-nil, encode_utf8, map, map-id}
use Rattle.std.specs.List.{flat_map}
use Rattle.std.specs.Str.{IsUtf8, NoCharPasses, chars, encode_utf8_all}
use Rattle.std.proofs.{lemmas.Bool.Decides.nat_tests, lemmas.Grind.flat_map-append, lemmas.List.Concat.flat_map_single}
use Rattle.std.proofs.lemmas.Str.{NoCharPasses-byte, encodes-chars, inside_one}
use Rattle.latex2mathml_tokens.specs.Escape.{content, content_byte, is_escaped, quoted_byte, value, value_byte}

-- f and g agree on a list if they agree on each byte of it
pub alike : (f g : ℕ → List ℕ) (bs : List ℕ) → ((k : ℕ) → k < length bs → f (get_or bs k 0) ≡ g (get_or bs k 0)) → flat_map f bs ≡ flat_map g bs
alike f g [] h = refl
alike f g (b ∷ bs) h =
    ap (λ l. l ++ flat_map f bs) (h 0 (omega arith)) ∙ ap (λ l. g b ++ l) (alike f g bs (λ k lt. h (suc k) (omega arith)))

-- f leaves a list as it is if it leaves each byte as it is
same_bytes : (f : ℕ → List ℕ) (bs : List ℕ) → ((k : ℕ) → k < length bs → f (get_or bs k 0) ≡ get_or bs k 0 ∷ []) → flat_map f bs ≡ bs
same_bytes f bs h = alike f (λ b. b ∷ []) bs h ∙ flat_map_single (λ b. b) bs ∙ map-id bs

-- a byte of a character is not ASCII, or is the character itself
one_byte : (c k : ℕ) → k < length (encode_utf8 c) → get_or (encode_utf8 c) k 0 < 128 → c ≡ get_or (encode_utf8 c) k 0
one_byte c k lt = inside_one c [] (encode_utf8 c) k (sym (append-nil (encode_utf8 c))) lt

-- a character that contents leave as it is
pub content_char-other : (c : ℕ) → c ≢ 38 → c ≢ 60 → c ≢ 62 → c ≢ 36 → content (encode_utf8 c) ≡ encode_utf8 c
content_char-other c ampersand less greater dollar =
    same_bytes content_byte (encode_utf8 c) (λ k lt. grind (arith, nat_tests, one_byte c k lt))

-- a character that the value of an attribute holds as contents hold it
pub value_char-other : (c : ℕ) → c ≢ 34 → c ≢ 36 → value (encode_utf8 c) ≡ content (encode_utf8 c)
value_char-other c quote dollar =
    alike value_byte content_byte (encode_utf8 c) (λ k lt. grind (arith, nat_tests, one_byte c k lt))

-- a character that quotation marks leave as it is
pub quoted_char-other : (c : ℕ) → c ≢ 34 → c ≢ 92 → flat_map quoted_byte (encode_utf8 c) ≡ encode_utf8 c
quoted_char-other c quote backslash =
    same_bytes quoted_byte (encode_utf8 c) (λ k lt. grind (arith, nat_tests, one_byte c k lt))

-- characters that are not escaped
pub ruleset others = (content_char-other, value_char-other, quoted_char-other)

-- contents hold a text as it is if no character of it is escaped
pub content-plain : (bs : List ℕ) → NoCharPasses is_escaped bs → content bs ≡ bs
content-plain bs h = same_bytes content_byte bs (λ k lt. grind (arith, nat_tests, NoCharPasses-byte is_escaped bs k h lt))

-- the characters that a loop over a text yields are the text
pub all_yielded : (cs bs : List ℕ) → IsUtf8 bs → map (λ c. c) cs ≡ chars bs → encode_utf8_all cs ≡ bs
all_yielded cs bs utf8 yielded = ap encode_utf8_all (sym (map-id cs) ∙ yielded) ∙ encodes-chars bs utf8

pub content-append : (xs ys : List ℕ) → content (xs ++ ys) ≡ content xs ++ content ys
content-append xs ys = flat_map-append content_byte xs ys
