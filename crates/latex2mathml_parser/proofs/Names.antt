-- Names that are taken letter by letter.
use Rattle.std.proofs.Common.{◌≡◌, ℕ, List, [], ◌∷◌, ◌++◌, None, refl, sym, subst, ap, ◌∙◌, append_assoc, append-nil, arith}
use Rattle.std.specs.{Char.encode_utf8, Str.encode_utf8_all}
use Rattle.std.proofs.lemmas.Str.{encodes-append}
use Rattle.latex2mathml_grammar.specs.Grammar.{AreLetters, first_letter, first_or_end, letter_of}
use Rattle.latex2mathml_parser.specs.{Marks.NameStands, Marks.rest_of, Unread.GoesOn, Unread.Takes, Unread.Unread}
use Rattle.latex2mathml_tokens.specs.{Lexemes.lexeme_tok, Tok.Tok, Tok.Letter, declared.attribute.Variant.Variant}
use Rattle.latex2mathml_tokens.specs.declared.lexeme.Lexeme.{Lexeme}
use Rattle.latex2mathml_tokens.specs.declared.lexeme.Lexeme.TheVariants as lexeme
use Rattle.latex2mathml_parser.proofs.Progress.{GoesOn-trans}

one_letter : (c : ℕ) (variant : Variant) (cs : List ℕ) (place next to : List Tok) → Letter c variant ≡ first_or_end place → next ≡ rest_of place → AreLetters cs next to → AreLetters (c ∷ cs) place to
one_letter c variant cs [] next to e same d = absurd cc
one_letter c variant cs (t ∷ ts) next to e same d = (t, (ts, refl, ap letter_of (sym e), subst (λ l. AreLetters cs l to) same d))

abbrev pub IsNoLetter : Lexeme → Type 0
IsNoLetter x = (c : ℕ) (variant : Variant) → x ≡ lexeme.Letter c variant → ⊥

none_first : (x : Lexeme) (l : List Tok) → lexeme_tok x ≡ first_or_end l → IsNoLetter x → first_letter l ≡ None
none_first x l e h = grind (arith)

-- a name is being taken, of which these are the bytes so far: they are those of letters, and any letters that come next
-- belong to it
pub record IsTaking (bytes : List ℕ) (old now : Unread) : Type 0 where
  pub letters : (taken : List ℕ) × (bytes ≡ encode_utf8_all taken) × ((cs : List ℕ) (to : List Tok) → AreLetters cs now.list to → AreLetters (taken ++ cs) (rest_of old.list) to)
  pub counts : GoesOn old now

-- one more letter
pub letter_taken : (bytes more : List ℕ) (c : ℕ) (variant : Variant) (old now next : Unread) → Takes (Letter c variant) now next → more ≡ bytes ++ encode_utf8 c → IsTaking bytes old now → IsTaking more old next
letter_taken bytes more c variant old now next found grown so_far =
    let k = so_far.letters in
    record {
      letters = (k.0 ++ c ∷ [], rw (encodes-append k.0 (c ∷ []), append-nil) (grown ∙ ap (λ bs. bs ++ encode_utf8 c) k.1), λ cs to d. rw append_assoc (k.2 (c ∷ cs) to (one_letter c variant cs now.list next.list to found.token found.list d)));
      counts = GoesOn-trans old now next so_far.counts found.counts;
    }

-- the token after the letters
pub name_taken : (bytes : List ℕ) (x : Lexeme) (old now next : Unread) → Takes (lexeme_tok x) now next → IsNoLetter x → IsTaking bytes old now → NameStands bytes old.list next.list × GoesOn old next
name_taken bytes x old now next found none so_far =
    let k = so_far.letters in
    let taken : AreLetters k.0 (rest_of old.list) now.list = rw append-nil at (k.2 [] now.list (refl, none_first x now.list found.token none)) in
    ((now.list, (k.0, taken, k.1), found.list), GoesOn-trans old now next so_far.counts found.counts)
