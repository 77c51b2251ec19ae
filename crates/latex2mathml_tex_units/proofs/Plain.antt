-- Printable characters of ASCII that are units by themselves.
use Rattle.std.proofs.Common.{◌≡◌, ◌∙◌, ◌==◌, ℕ, ◌-◌, ◌<◌, ◌≤◌, Bool, true, false, List, [], ◌∷◌, ◌++◌, ◌&&◌, Option, None, not, nat_lt, drop, get_or, length, ap, arith, refl, sym}
use Rattle.std.proofs.lemmas.Bool.{and_parts}
use Rattle.std.proofs.lemmas.Bool.Decides.{nat_tests}
use Rattle.std.proofs.lemmas.List.FromFn.{get_or-map-range_with_len, length-map-range_with_len}
use Rattle.std.proofs.lemmas.Str.{chars_past_char, encode_ascii}
use Rattle.std.specs.Str.{IsUtf8, chars}
use Rattle.latex2mathml_tex_grammar.specs.{Cutting.units_of, Next.next_are, Rules.a_character}
use Rattle.latex2mathml_tex_grammar.specs.Units as units
use Rattle.latex2mathml_tex_grammar.specs.Units.{Units, is_forbidden, is_special}
use Rattle.latex2mathml_tex_units.proofs.Taken.{piece_before}
use Rattle.latex2mathml_tex_units.specs.{Characters.is_plain, Characters.plain_bytes, Taking.unit_of, declared.unit.Unit.Unit}
use Rattle.latex2mathml_tex_units.specs.declared.unit.Piece.TheVariants as piece

-- The table of plain bytes

length-plain_bytes : length plain_bytes ≡ 256
unfolding plain_bytes
length-plain_bytes = length-map-range_with_len is_plain 0 256

pub in_table : (table : List Bool) (b : ℕ) → table ≡ plain_bytes → b < 256 → b < length table
in_table table b e h = omega (arith, ap length e, length-plain_bytes, h)

pub plain_at : (table : List Bool) (b : ℕ) (d : Bool) → table ≡ plain_bytes → b < 256 → get_or table b d ≡ is_plain b
unfolding plain_bytes
plain_at table b d e h = ap (λ t. get_or t b d) e ∙ get_or-map-range_with_len is_plain 0 256 b b d h (omega arith)

-- What plain characters are

record Parts (c : ℕ) : Type 0 where
  above : nat_lt 0x20 c ≡ true
  below : nat_lt c 0x7F ≡ true
  other : not (is_special c) ≡ true

parts_of : (c : ℕ) → is_plain c ≡ true → Parts c
parts_of c h =
    let all = and_parts (nat_lt 0x20 c && nat_lt c 0x7F) (not (is_special c)) h in
    let range = and_parts (nat_lt 0x20 c) (nat_lt c 0x7F) all.0 in
    record { above = range.0; below = range.1; other = all.1 }

pub plain_ascii : (c : ℕ) → is_plain c ≡ true → c < 128
plain_ascii c h = let below = (parts_of c h).below in grind (arith, nat_tests)

not_false : (b : Bool) → not b ≡ true → b ≡ false
not_false false h = refl
not_false true h = cc

pub plain_special : (c : ℕ) → is_plain c ≡ true → is_special c ≡ false
plain_special c h = not_false (is_special c) (parts_of c h).other

pub plain_forbidden : (c : ℕ) → is_plain c ≡ true → is_forbidden c ≡ false
plain_forbidden c h =
    let p = parts_of c h in
    let control : nat_lt c 0x20 ≡ false = (let above = p.above in grind (arith, nat_tests)) in
    let one : (c == 0xFFFE) ≡ false = (let below = p.below in grind (arith, nat_tests)) in
    let two : (c == 0xFFFF) ≡ false = (let below = p.below in grind (arith, nat_tests)) in
    rw (control, one, two) refl

pub first_split : (text : List ℕ) (b d : ℕ) → IsUtf8 text → 0 < length text → get_or text 0 d ≡ b → b < 128 → chars text ≡ b ∷ chars (drop 1 text)
first_split [] b d u h e small = absurd (omega (arith, h))
first_split (x ∷ text) b d u h e small = chars_past_char (x ∷ text) text b u (ap (λ y. y ∷ text) e ∙ ap (λ bs. bs ++ text) (sym (encode_ascii b small)))

-- a plain character is a unit by itself
pub plain_before : (end : ℕ) (text rest : List ℕ) (c : ℕ) → IsUtf8 text → IsUtf8 rest → length text ≤ end → is_plain c ≡ true → chars text ≡ c ∷ chars rest
    → units_of (end - length text) (chars text) ≡ units.Next (units.unit (units.Character c) (end - length text)) (units_of (end - length rest) (chars rest))
plain_before end text rest c u v h plain e = piece_before end text rest (c ∷ []) (units.Character c) u v h e (units.character c (plain_special c plain) (plain_forbidden c plain) refl refl)

-- no unit passes the first of these tests, where a character comes next that does not
pub other_next : (wanted c : ℕ) (tests : List (units.Piece → Option (List ℕ))) (l m : Units) (u : Unit) → l ≡ units.Next (unit_of u) m → u.piece ≡ piece.Character c → (c ≡ wanted → ⊥) → next_are (a_character wanted ∷ tests) l ≡ None
other_next wanted c tests l m u e is other =
    let test : (c == wanted) ≡ false = grind (arith, nat_tests) in
    rw (e, is, test) refl
