-- The first character of a text, after white space, shows whether the first token is a prime, a sign or an opening bracket.
use Rattle.std.proofs.Common.{◌≡◌, ◌≢◌, inl, inr, ℕ, Bool, false, List, [], ◌∷◌, ◌++◌, Some, refl, sym, ap, subst, ◌∙◌, arith}
use Rattle.std.proofs.{lemmas.Bool.both_ways, lemmas.Bool.Decides.nat_tests}
use Rattle.std.specs.Str.{byte}
use Rattle.latex2mathml_grammar.specs.{Beginnings.BeginsWith, Characters.head, Cutting.first_slice, Cutting.slice, Cutting.slices_of, Grammar.first}
use Rattle.latex2mathml_parser.specs.{Lexing.IsStart, Marks.IsSeen, Marks.Shows}
use Rattle.latex2mathml_grammar.specs.Spelling.{Slice, character_token}
use Rattle.latex2mathml_parser.specs.Unread.{token_list}
use Rattle.latex2mathml_tokens.specs.Tok.{Tok, EOF, takes_digit}
use Rattle.latex2mathml_grammar.proofs.{FirstSlices.slice_of, OneList.Begun, OneList.begun, OneList.cut_step}
use Rattle.latex2mathml_grammar.proofs.PlainTokens.{is_plain, IsKnown, known}
use Rattle.latex2mathml_parser.proofs.Starts.{step_from}

pub no_end : (c : ℕ) → character_token c ≢ EOF
no_end c e = grind (arith, nat_tests)

-- the slice at the start of a text, whose first character is c
abbrev Found : Bool → List ℕ → ℕ → Type 0
Found takes text c =
    (alone : Bool) × (after w rest : List ℕ) × (t : Tok) × (ss : List Slice)
    × (slices_of takes text ≡ slice w t ∷ ss)
    × (first_slice alone (c ∷ after) ≡ slice w t)
    × (c ∷ after ≡ w ++ rest)
    × IsKnown w t

found : (takes alone : Bool) (text : List ℕ) (c : ℕ) (after : List ℕ) → IsStart takes text (c ∷ after) alone → Found takes text c
found takes alone text c after starts =
    let b : Begun alone (c ∷ after) = begun alone c after starts.1.2 in
    let w : List ℕ = b.2.0 in
    (alone, after, w, b.1, b.0, slices_of (takes_digit (Some b.0)) b.1, cut_step takes text (slice w b.0) b.1 (step_from takes alone text (c ∷ after) b.0 b.1 starts b.2), ap (first_slice alone) b.2.1 ∙ slice_of alone w b.1 b.0 b.2.2, b.2.1, known alone w (head b.1) b.0 b.2.2)

told : (c d : ℕ) (after w rest : List ℕ) (t : Tok) → ((x : ℕ) → character_token x ≡ character_token d → x ≡ d) → is_plain (character_token d) ≡ false → c ∷ after ≡ w ++ rest → IsKnown w t → t ≡ character_token d → c ≡ d
told c d after w rest t alone_so plain split (inl k) e =
    let same : c ≡ k.0 = cc (split ∙ ap (λ v. v ++ rest) k.1) in
    same ∙ alone_so k.0 (sym k.2 ∙ e)
told c d after w rest t alone_so plain split (inr k) e = absurd (both_ways (is_plain t) (ap is_plain e ∙ plain) k)

-- a character that is a token by itself shows its token
shows : (takes : Bool) (text : List ℕ) (c d : ℕ) → ((alone : Bool) (after : List ℕ) → (first_slice alone (d ∷ after)).token ≡ character_token d) → ((x : ℕ) → character_token x ≡ character_token d → x ≡ d) → is_plain (character_token d) ≡ false → Found takes text c → Shows d c (token_list (slices_of takes text))
shows takes text c d itself alone_so plain (alone, after, w, rest, t, ss, whole, slice_is, split, k) =
    let stands : first (token_list (slices_of takes text)) ≡ Some t = ap (λ xs. first (token_list xs)) whole in (
      λ e. stands ∙ ap Some (ap (λ s. s.token) (sym slice_is) ∙ ap (λ x. (first_slice alone (x ∷ after)).token) e ∙ itself alone after),
      λ e. told c d after w rest t alone_so plain split k (cc (stands, e)),
    )

some_left : (takes : Bool) (text : List ℕ) (c : ℕ) → Found takes text c → token_list (slices_of takes text) ≢ []
some_left takes text c (alone, after, w, rest, t, ss, whole, slice_is, split, k) = λ e. cc (ap token_list (sym whole) ∙ e)

seen_character : (takes : Bool) (text : List ℕ) (c : ℕ) → Found takes text c → IsSeen (Some c) (token_list (slices_of takes text))
seen_character takes text c f = (
  some_left takes text c f,
  shows takes text c (byte "'") (λ alone after. refl) (λ x e. grind (arith, nat_tests)) refl f,
  shows takes text c (byte "_") (λ alone after. refl) (λ x e. grind (arith, nat_tests)) refl f,
  shows takes text c (byte "^") (λ alone after. refl) (λ x e. grind (arith, nat_tests)) refl f,
  shows takes text c (byte "[") (λ alone after. refl) (λ x e. grind (arith, nat_tests)) refl f,
)

pub seen : (takes alone : Bool) (text start : List ℕ) (c : ℕ) (after : List ℕ) → IsStart takes text start alone → start ≡ c ∷ after → IsSeen (Some c) (token_list (slices_of takes text))
seen takes alone text start c after starts e = seen_character takes text c (found takes alone text c after (subst (λ s. IsStart takes text s alone) e starts))

-- no token of a text is the end of the formula
no_end_known : (w : List ℕ) (t : Tok) → IsKnown w t → t ≢ EOF
no_end_known w t (inl k) = λ e. no_end k.0 (sym k.2 ∙ e)
no_end_known w t (inr k) = λ e. absurd (both_ways (is_plain t) (ap is_plain e) k)

pub no_end_begun : (alone : Bool) (text : List ℕ) (t : Tok) (rest : List ℕ) → BeginsWith alone text t rest → t ≢ EOF
no_end_begun alone text t rest (w, e, spells) = no_end_known w t (known alone w (head rest) t spells)
