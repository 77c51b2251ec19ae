-- Units that are taken from the middle of a text, by the places where they begin.
use Rattle.std.proofs.Common.{◌≡◌, ◌∙◌, ℕ, ◌+◌, ◌-◌, ◌<◌, ◌≤◌, true, List, [], ◌∷◌, ◌++◌, Some, drop, get_or, length, refl, sym, ap, subst, arith}
use Rattle.std.proofs.Math.Seq.{drop-append_seam}
use Rattle.std.proofs.lemmas.List.{drop-drop, get_or-drop, length-drop}
use Rattle.std.proofs.lemmas.Str.{IsCharBoundary-after_ascii, IsCharBoundary-from_rest, IsUtf8-drop}
use Rattle.std.specs.Str.{chars, encode_utf8_all, IsCharBoundary, IsUtf8}
use Rattle.latex2mathml_tex_grammar.specs.Cutting.{units_of}
use Rattle.latex2mathml_tex_grammar.specs.Units.{Character, Next, Piece, Spells, character, unit}
use Rattle.latex2mathml_tex_units.specs.Characters.{is_plain}
use Rattle.latex2mathml_tex_units.proofs.{Plain.first_split, Plain.plain_ascii, Plain.plain_forbidden, Plain.plain_special, Taken.end_within, Taken.piece_taken, Texts.ends_at, Texts.text_bytes, Texts.text_length}

-- at this place a piece begins, and the text may be cut at the next place
pub record Step (text : List ℕ) (start at next : ℕ) (piece : Piece) : Type 0 where
  pub within : next ≤ length text
  pub cut : IsCharBoundary text next
  pub is : units_of (start + at) (chars (drop at text)) ≡ Next (unit piece (start + at)) (units_of (start + next) (chars (drop next text)))

-- the next place is where the rest of the text begins
pub piece_step : (text rest w : List ℕ) (start at : ℕ) (piece : Piece) → IsUtf8 text → at ≤ length text → IsCharBoundary text at → IsUtf8 rest → chars (drop at text) ≡ w ++ chars rest → Spells w (chars rest) (Some piece) → Step text start at (length text - length rest) piece
piece_step text rest w start at piece u h cut v e spells =
    let from : IsUtf8 (drop at text) = IsUtf8-drop text at u cut in
    let many : length (drop at text) ≡ length text - at = length-drop at text in
    let ends = ends_at (drop at text) rest w from v e in
    let next : at + (length (drop at text) - length rest) ≡ length text - length rest = omega (arith, many, h, ends.0) in
    let seam : length (drop at text) - length rest ≡ length (encode_utf8_all w) = omega (arith, text_length (drop at text) rest w from v e) in
    let left : drop (length text - length rest) text ≡ rest =
    sym (ap (λ n. drop n text) next)
    ∙ sym (drop-drop (length (drop at text) - length rest) at text)
    ∙ ap (drop (length (drop at text) - length rest)) (text_bytes (drop at text) rest w from v e)
    ∙ ap (λ n. drop n (encode_utf8_all w ++ rest)) seam
    ∙ drop-append_seam (encode_utf8_all w) rest in
    let place : start + at + (length (drop at text) - length rest) ≡ start + (length text - length rest) = omega (arith, next) in
    record {
      within = omega arith;
      cut = subst (IsCharBoundary text) next (IsCharBoundary-from_rest text at (length (drop at text) - length rest) h ends.1);
      is = piece_taken (start + at) (drop at text) rest w piece from v e spells
          ∙ ap (λ p. Next (unit piece (start + at)) (units_of p (chars rest))) place
          ∙ ap (λ t. Next (unit piece (start + at)) (units_of (start + (length text - length rest)) (chars t))) (sym left);
    }

-- what follows a piece is no longer than the text
pub rest_within : (text rest w : List ℕ) (at : ℕ) → IsUtf8 text → IsCharBoundary text at → IsUtf8 rest → chars (drop at text) ≡ w ++ chars rest → length rest ≤ length text
rest_within text rest w at u cut v e = omega (arith, length-drop at text, end_within (drop at text) rest (IsUtf8-drop text at u cut) v (w, e))

-- a plain character is one byte
pub plain_step : (text : List ℕ) (start at b : ℕ) → IsUtf8 text → at < length text → IsCharBoundary text at → get_or text at 0 ≡ b → is_plain b ≡ true → Step text start at (at + 1) (Character b)
plain_step text start at b u h cut e plain =
    let from : IsUtf8 (drop at text) = IsUtf8-drop text at u cut in
    let many : length (drop at text) ≡ length text - at = length-drop at text in
    let some : 0 < length (drop at text) = omega (arith, many, h) in
    let zero : at + 0 ≡ at = omega arith in
    let here : get_or (drop at text) 0 0 ≡ b = get_or-drop at text 0 0 ∙ ap (λ n. get_or text n 0) zero ∙ e in
    let small = plain_ascii b plain in
    let behind : IsUtf8 (drop 1 (drop at text)) = IsUtf8-drop (drop at text) 1 from (IsCharBoundary-after_ascii (drop at text) 0 from some (omega (arith, here, small))) in
    let one : length text - length (drop 1 (drop at text)) ≡ at + 1 = omega (arith, many, h, length-drop 1 (drop at text)) in
    subst (λ n. Step text start at n (Character b)) one
    (piece_step text (drop 1 (drop at text)) (b ∷ []) start at (Character b) u (omega (arith, h)) cut behind (first_split (drop at text) b 0 from some here small) (character b (plain_special b plain) (plain_forbidden b plain) refl refl))
