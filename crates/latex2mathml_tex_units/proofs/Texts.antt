-- Where the end of a text begins, in bytes.
use Rattle.std.proofs.Common.{◌≡◌, ℕ, ◌+◌, ◌-◌, ◌≤◌, List, ◌++◌, take, length, sym, ap, ◌∙◌, arith}
use Rattle.std.proofs.{Math.Seq.take-append_seam, lemmas.List.length-append}
use Rattle.std.proofs.lemmas.Str.{encodes-append, encodes-chars, IsCharBoundary-at_seam}
use Rattle.std.specs.Str.{chars, encode_utf8_all, IsUtf8, IsCharBoundary}

-- the bytes of a text are those of the characters before its end, followed by its end
pub text_bytes : (text rest w : List ℕ) → IsUtf8 text → IsUtf8 rest → chars text ≡ w ++ chars rest → text ≡ encode_utf8_all w ++ rest
text_bytes text rest w u v e =
    sym (encodes-chars text u) ∙ ap encode_utf8_all e ∙ encodes-append w (chars rest) ∙ ap (λ b. encode_utf8_all w ++ b) (encodes-chars rest v)

pub text_length : (text rest w : List ℕ) → IsUtf8 text → IsUtf8 rest → chars text ≡ w ++ chars rest → length text ≡ length (encode_utf8_all w) + length rest
text_length text rest w u v e = ap length (text_bytes text rest w u v e) ∙ length-append (encode_utf8_all w) rest

-- its end begins between two characters, and this is what precedes it
pub ends_at : (text rest w : List ℕ) → IsUtf8 text → IsUtf8 rest → chars text ≡ w ++ chars rest → (length rest ≤ length text) × IsCharBoundary text (length text - length rest) × (take (length text - length rest) text ≡ encode_utf8_all w)
ends_at text rest w u v e =
    let bytes : text ≡ encode_utf8_all w ++ rest = text_bytes text rest w u v e in
    let whole : length text ≡ length (encode_utf8_all w) + length rest = text_length text rest w u v e in
    let seam : length text - length rest ≡ length (encode_utf8_all w) = omega arith in
    (omega arith, rw seam (IsCharBoundary-at_seam text (encode_utf8_all w) rest bytes v), rw seam (ap (take (length (encode_utf8_all w))) bytes ∙ take-append_seam (encode_utf8_all w) rest))
