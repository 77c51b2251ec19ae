-- What the start of a text takes from its units.
use Rattle.std.proofs.Common.{◌≡◌, ℕ, ◌+◌, ◌-◌, ◌≤◌, ◌==◌, true, List, [], ◌∷◌, ◌++◌, length, Some, None, refl, sym, ap, ◌∙◌, arith, true-eqb}
use Rattle.std.specs.Str.{chars, IsUtf8}
use Rattle.latex2mathml_tex_grammar.specs.{Cutting.units_of, Refusal.Refusal}
use Rattle.latex2mathml_tex_grammar.specs.Units.{Piece, Next, End, Stop, unit, behind, Spells, IsRefusedAt, lone_backslash, forbidden, forbidden_name, at_end, refused}
use Rattle.latex2mathml_tex_grammar.proofs.OneList.{units_are, units_behind}
use Rattle.latex2mathml_tex_units.proofs.Texts.{text_length}

pub nothing_left : (place : ℕ) (text : List ℕ) → text ≡ [] → units_of place text ≡ End place
nothing_left place text e = units_are place text (End place) (at_end e refl)

pub ended_there : (place : ℕ) (text : List ℕ) → (length text == 0) ≡ true → units_of place (chars text) ≡ End place
unfolding chars
ended_there place [] e = nothing_left place [] refl
ended_there place (b ∷ text) e = absurd (omega (arith, true-eqb _ _ (sym e)))

pub refused_there : (place : ℕ) (text : List ℕ) (r : Refusal) → IsRefusedAt place text r → units_of place text ≡ Stop r
refused_there place text r h = units_are place text (Stop r) (refused r h refl)

-- the end of a text does not begin before the text
pub end_within : (text rest : List ℕ) → IsUtf8 text → IsUtf8 rest → (w : List ℕ) × (chars text ≡ w ++ chars rest) → length rest ≤ length text
end_within text rest u v (w, e) = omega (arith, text_length text rest w u v e)

-- the place after a slice
behind_is : (place : ℕ) (text rest w : List ℕ) → IsUtf8 text → IsUtf8 rest → chars text ≡ w ++ chars rest → behind place w ≡ place + (length text - length rest)
behind_is place text rest w u v e = omega (arith, text_length text rest w u v e)

pub piece_taken : (place : ℕ) (text rest w : List ℕ) (piece : Piece) → IsUtf8 text → IsUtf8 rest → chars text ≡ w ++ chars rest → Spells w (chars rest) (Some piece) → units_of place (chars text) ≡ Next (unit piece place) (units_of (place + (length text - length rest)) (chars rest))
piece_taken place text rest w piece u v e spells =
    ap (units_of place) e ∙ units_behind place w (chars rest) (Some piece) spells ∙ ap (λ p. Next (unit piece place) (units_of p (chars rest))) (behind_is place text rest w u v e)

pub comment_skipped : (place : ℕ) (text rest w : List ℕ) → IsUtf8 text → IsUtf8 rest → chars text ≡ w ++ chars rest → Spells w (chars rest) None → units_of (place + (length text - length rest)) (chars rest) ≡ units_of place (chars text)
comment_skipped place text rest w u v e spells =
    sym (ap (units_of place) e ∙ units_behind place w (chars rest) None spells ∙ ap (λ p. units_of p (chars rest)) (behind_is place text rest w u v e))

some_bytes : (c : ℕ) (text after : List ℕ) → chars text ≡ c ∷ after → 1 ≤ length text
unfolding chars
some_bytes c [] after e = absurd (cc)
some_bytes c (b ∷ text) after e = omega arith

-- a text that is refused has at least one byte
pub refused_some : (place : ℕ) (text : List ℕ) (r : Refusal) → IsRefusedAt place (chars text) r → 1 ≤ length text
refused_some place text r (lone_backslash e f) = some_bytes _ text _ e
refused_some place text r (forbidden c rest h e f) = some_bytes c text rest e
refused_some place text r (forbidden_name c rest h e f) = some_bytes _ text _ e

-- the same, where a place is counted from the end
pub piece_before : (end : ℕ) (text rest w : List ℕ) (piece : Piece) → IsUtf8 text → IsUtf8 rest → length text ≤ end → chars text ≡ w ++ chars rest → Spells w (chars rest) (Some piece) → units_of (end - length text) (chars text) ≡ Next (unit piece (end - length text)) (units_of (end - length rest) (chars rest))
piece_before end text rest w piece u v h e spells =
    let within : length rest ≤ length text = end_within text rest u v (w, e) in
    let place : (end - length text) + (length text - length rest) ≡ end - length rest = omega (arith, h, within) in
    piece_taken (end - length text) text rest w piece u v e spells ∙ ap (λ p. Next (unit piece (end - length text)) (units_of p (chars rest))) place
