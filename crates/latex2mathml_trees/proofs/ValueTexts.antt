-- Texts that are values of attributes: any escaped text, and the texts of numbers and of widths as they are.
use Rattle.std.proofs.Common.{◌≡◌, ℕ, zero, suc, ℤ, pos, negsuc, ◌+◌, ◌/◌, ◌%◌, ◌<◌, Bool, true, false, ◌&&◌, ◌==◌, IsTrue, List, [], ◌∷◌, ◌++◌, refl, ap, subst, ◌∙◌, append-nil, arith, codes, cond, map}
use Rattle.std.specs.Fmt.{decimal, digits, digits_onto, digit_glyph}
use Rattle.std.specs.List.{flat_map, list_all}
use Rattle.std.proofs.{lemmas.Bool.Decides.nat_tests, lemmas.Grind.flat_map-append, lemmas.List.Folds.list_all-append, lemmas.List.Folds.list_all-map}
use Rattle.latex2mathml_tokens.specs.Escape.{value, value_byte}
use Rattle.latex2mathml_trees.specs.Markup.{named, numbered, Part, refers, plain, is_part, spell_part}
use Rattle.latex2mathml_trees.proofs.Runs.{plain-spells}
use Rattle.latex2mathml_trees.specs.Width.{width_text, thousandths_text, thousandths}

-- the text consists of parts, as a value does
pub record IsValue (text : List ℕ) : Type 0 where
  pub parts : List Part
  pub are_parts : IsTrue (list_all is_part parts)
  pub spelled : flat_map spell_part parts ≡ text

pub no_text : IsValue []
no_text = record { parts = []; are_parts = refl; spelled = refl }

pub one_part : (p : Part) → IsTrue (is_part p) → IsValue (spell_part p)
one_part p h = record { parts = p ∷ []; are_parts = ap (λ b. b && true) h; spelled = append-nil (spell_part p) }

pub beside : {a b : List ℕ} → IsValue a → IsValue b → IsValue (a ++ b)
beside x y = record {
  parts = x.parts ++ y.parts;
  are_parts = grind (arith, list_all-append {X = Part}, x.are_parts, y.are_parts);
  spelled = rw (flat_map-append spell_part, x.spelled, y.spelled) refl;
}

-- Escaped texts

-- what a byte of contents is within a value
abbrev pub content_part : ℕ → Part
content_part b = cond (b == 38) (refers (named (codes "amp"))) (cond (b == 60) (refers (named (codes "lt"))) (cond (b == 62) (refers (named (codes "gt"))) (cond (b == 36) (refers (numbered (codes "24"))) (plain b))))

pub escaped_by : (escape : ℕ → List ℕ) (part : ℕ → Part) → ((b : ℕ) → IsTrue (is_part (part b)) × (spell_part (part b) ≡ escape b)) → (bs : List ℕ) → IsValue (flat_map escape bs)
escaped_by escape part is [] = no_text
escaped_by escape part is (b ∷ bs) = beside (subst IsValue (is b).1 (one_part (part b) (is b).0)) (escaped_by escape part is bs)

pub escaped : (bs : List ℕ) → IsValue (value bs)
escaped = escaped_by value_byte (λ b. cond (b == 34) (refers (named (codes "quot"))) (cond (b == 36) (plain 36) (content_part b))) (λ b. grind (arith, nat_tests))

-- Numbers and widths: what holds of each digit, and of a period and a minus sign, holds of each byte of them.
module _ (passes : ℕ → Bool) (digit_passes : (d : ℕ) → d < 10 → IsTrue (passes (48 + d))) where
  onto_passes : (k n : ℕ) (acc : List ℕ) → IsTrue (list_all passes acc) → IsTrue (list_all passes (digits_onto k 10 false n acc))
  onto_passes zero n acc h = h
  onto_passes (suc k) n acc h =
      let digit : n % 10 < 10 = omega arith in
      grind (arith, digit_passes (n % 10) digit, onto_passes k (n / 10) (digit_glyph false (n % 10) ∷ acc))

  pub decimal_passes : (n : ℕ) → IsTrue (list_all passes (decimal n))
  unfolding digits
  decimal_passes n = onto_passes 64 n [] refl

  pub thousandths_pass : IsTrue (passes 46) → (t : ℕ) → IsTrue (list_all passes (thousandths_text t))
  thousandths_pass point t =
      let n = t % 1000 in
      let a = digit_passes (n / 100 % 10) (omega arith) in
      let b = digit_passes (n / 10 % 10) (omega arith) in
      let c = digit_passes (n % 10) (omega arith) in
      grind (arith, list_all-append passes, decimal_passes (t / 1000))

  pub width_passes : IsTrue (passes 46) → IsTrue (passes 45) → (n : ℤ) → IsTrue (list_all passes (width_text n))
  width_passes point minus (pos n) = thousandths_pass point (thousandths n)
  width_passes point minus (negsuc n) = ap (λ b. b && list_all passes (thousandths_text (thousandths (suc n)))) minus ∙ thousandths_pass point (thousandths (suc n))

pub plain_text : (bs : List ℕ) → IsTrue (list_all (λ b. is_part (plain b)) bs) → IsValue bs
plain_text bs h = record { parts = map plain bs; are_parts = list_all-map is_part plain bs ∙ h; spelled = plain-spells bs }

plain_digit : (d : ℕ) → d < 10 → IsTrue (is_part (plain (48 + d)))
plain_digit d h = grind (arith, nat_tests)

pub plain_decimal : (n : ℕ) → IsValue (decimal n)
plain_decimal n = plain_text (decimal n) (decimal_passes _ plain_digit n)

pub plain_width : (n : ℤ) → IsValue (width_text n)
plain_width n = plain_text (width_text n) (width_passes _ plain_digit refl refl n)
