-- Texts that hold no dollar sign, and no character that XML forbids: plain texts, contents and alternative texts.
use Rattle.std.proofs.Common.{◌≡◌, inl, inr, ℕ, true, false, List, [], ◌∷◌, ◌++◌, refl, sym, subst, arith, append-nil, codes}
use Rattle.std.proofs.{lemmas.Bool.and_parts, lemmas.Bool.cases_Bool, lemmas.Bool.Decides.nat_tests, lemmas.Bool.Decides.eqb_tells, lemmas.Grind.flat_map-append, lemmas.List.Folds.list_all-append}
use Rattle.std.proofs.lemmas.Str.{NoCharPasses-nil, NoCharPasses-append, encode_ascii}
use Rattle.std.specs.{Char.encode_utf8, List.flat_map, List.list_all, Str.NonePass, Str.encode_utf8_all}
use Rattle.latex2mathml_elements.specs.Annotated.{alternative, alternative_byte}
use Rattle.latex2mathml_elements.specs.Characters.{is_forbidden, IsAllowed}
use Rattle.latex2mathml_elements.specs.{Dollars.IsDollarFree}
use Rattle.latex2mathml_elements.proofs.{Alternatives.alternative_char-other, Plain.IsPlain, Plain.is_plain}
use Rattle.latex2mathml_tokens.specs.Escape.{content, content_byte, is_escaped}
use Rattle.latex2mathml_tokens.proofs.Escapes.{content-plain}

-- Plain texts

free_both : (a b : List ℕ) → IsDollarFree a → IsDollarFree b → IsDollarFree (a ++ b)
free_both a b x y = grind (arith, list_all-append)

free_plain : (bs : List ℕ) → IsPlain bs → IsDollarFree bs
free_plain [] h = refl
free_plain (b ∷ bs) h = grind (arith, nat_tests, free_plain bs)

pub allowed_both : (a b : List ℕ) → IsAllowed a → IsAllowed b → IsAllowed (a ++ b)
allowed_both a b x y = NoCharPasses-append is_forbidden a b x y

-- a character as a text
pub allowed_char : (c : ℕ) → is_forbidden c ≡ false → IsAllowed (encode_utf8 c)
allowed_char c h = (c ∷ [], append-nil (encode_utf8 c), (h, tt))

pub plain_is_allowed : (b : ℕ) → is_plain b ≡ true → is_forbidden b ≡ false
plain_is_allowed b h = grind (arith, nat_tests)

pub allowed_plain : (bs : List ℕ) → IsPlain bs → IsAllowed bs
allowed_plain [] h = NoCharPasses-nil is_forbidden
allowed_plain (b ∷ bs) h =
    let parts = and_parts (is_plain b) (list_all is_plain bs) h in
    let first = subst IsAllowed (encode_ascii b (grind (arith, nat_tests, parts.0))) (allowed_char b (plain_is_allowed b parts.0)) in
    allowed_both (b ∷ []) bs first (allowed_plain bs parts.1)

-- the text holds no dollar sign, and under a condition no character that XML forbids
pub record IsClean (Condition : Type 0) (text : List ℕ) : Type 0 where
  pub free : IsDollarFree text
  pub allowed : Condition → IsAllowed text

pub both : {C : Type 0} {a b : List ℕ} → IsClean C a → IsClean C b → IsClean C (a ++ b)
both {a = a} {b = b} x y =
    record { free = free_both a b x.free y.free; allowed = λ c. allowed_both a b (x.allowed c) (y.allowed c) }

pub clean : {C : Type 0} (bs : List ℕ) → IsPlain bs → IsClean C bs
clean bs h = record { free = free_plain bs h; allowed = λ c. allowed_plain bs h }

-- Escaped texts

module _ (escape : ℕ → List ℕ) (free : (b : ℕ) → IsDollarFree (escape b)) (allowed : (c : ℕ) → is_forbidden c ≡ false → IsAllowed (flat_map escape (encode_utf8 c))) where
  free_escaped : (bs : List ℕ) → IsDollarFree (flat_map escape bs)
  free_escaped [] = refl
  free_escaped (b ∷ bs) = free_both (escape b) (flat_map escape bs) (free b) (free_escaped bs)

  allowed_escaped : (cs : List ℕ) → NonePass is_forbidden cs → IsAllowed (flat_map escape (encode_utf8_all cs))
  allowed_escaped [] h = NoCharPasses-nil is_forbidden
  allowed_escaped (c ∷ cs) h =
      subst IsAllowed (sym (flat_map-append escape (encode_utf8 c) (encode_utf8_all cs))) (allowed_both _ _ (allowed c h.0) (allowed_escaped cs h.1))

  escaped : {C : Type 0} (text : List ℕ) → (C → IsAllowed text) → IsClean C (flat_map escape text)
  escaped text h = record {
    free = free_escaped text;
    allowed = λ c. subst (λ t. IsAllowed (flat_map escape t)) (h c).1 (allowed_escaped (h c).0 (h c).2);
  }

-- a character that is escaped becomes a reference of ASCII characters
reference : (c : ℕ) → is_escaped c ≡ true → IsPlain (content (encode_utf8 c))
unfolding encode_utf8
reference c h = grind (arith, nat_tests)

allowed_content_char : (c : ℕ) → is_forbidden c ≡ false → IsAllowed (content (encode_utf8 c))
allowed_content_char c h = elim (cases_Bool (is_escaped c)) [
  | inl is ↦ allowed_plain (content (encode_utf8 c)) (reference c is)
  | inr other ↦ subst IsAllowed (sym (content-plain (encode_utf8 c) (c ∷ [], append-nil (encode_utf8 c), (other, tt)))) (allowed_char c h)
]

allowed_alternative_char : (c : ℕ) → is_forbidden c ≡ false → IsAllowed (alternative (encode_utf8 c))
unfolding encode_utf8
allowed_alternative_char c h = elim (eqb_tells c 34) [
  | inl is ↦ subst (λ k. IsAllowed (alternative (encode_utf8 k))) (sym is.1) (allowed_plain (codes "&quot;") refl)
  | inr not_quote ↦ subst IsAllowed (sym (alternative_char-other c not_quote.1)) (allowed_content_char c h)
]

pub contents : {C : Type 0} (text : List ℕ) → (C → IsAllowed text) → IsClean C (content text)
contents = escaped content_byte (λ b. grind arith) allowed_content_char

pub alternatives : {C : Type 0} (text : List ℕ) → (C → IsAllowed text) → IsClean C (alternative text)
alternatives = escaped alternative_byte (λ b. grind arith) allowed_alternative_char
