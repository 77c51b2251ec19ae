-- Texts that begin with no white space.
use Rattle.std.proofs.Common.{◌≡◌, ◌∙◌, ℕ, ◌<◌, ◌≤◌, true, List, [], ◌∷◌, ◌++◌, get_or, inl, inr, sym, ap, arith}
use Rattle.std.proofs.lemmas.Bool.{cases_Bool}
use Rattle.std.proofs.lemmas.Bool.Decides.{nat_tests}
use Rattle.std.proofs.lemmas.Str.{encode_ascii, encodes-chars}
use Rattle.std.specs.Str.{chars, encode_utf8_all, IsUtf8}
use Rattle.latex2mathml_tex_grammar.specs.Units.{Stops, head, is_space}

space_small : (c : ℕ) → is_space c ≡ true → c ≤ 32
space_small c h = grind (arith, nat_tests)

no_space_of : (cs text : List ℕ) → encode_utf8_all cs ≡ text → 32 < get_or text 0 0 → Stops is_space (head cs)
no_space_of [] text e more = tt
no_space_of (c ∷ cs) text e more = elim (cases_Bool (is_space c)) [
  | inl h ↦ (
      let small = space_small c h in
      let begins : text ≡ c ∷ encode_utf8_all cs = sym e ∙ ap (λ bs. bs ++ encode_utf8_all cs) (encode_ascii c (omega (arith, small))) in
      absurd (omega (arith, small, more, ap (λ t. get_or t 0 0) begins)))
  | inr h ↦ h
]

-- no white space begins with a byte above the space
pub no_space : (text : List ℕ) → IsUtf8 text → 32 < get_or text 0 0 → Stops is_space (head (chars text))
no_space text u more = no_space_of (chars text) text (encodes-chars text u) more
