-- Texts without a dollar sign. The sign is ASCII, so it is never a byte of another character, and what is said of bytes
-- here holds of characters.
use Rattle.std.specs.Prelude.{◌≢◌, ℕ, Bool, not, ◌&&◌, ◌==◌, IsTrue, List, [], ◌∷◌, ◌++◌}
use Rattle.std.specs.{List.list_all, Str.byte}
use Rattle.std.proofs.Common.{⊎_elim, refl, ap, ◌∙◌}
use Rattle.std.proofs.{lemmas.Bool.and_parts, lemmas.Bool.Decides.eqb_tells, lemmas.List.Folds.list_all-append}

-- the dollar sign
abbrev pub dollar : ℕ
dollar = byte "$"

-- what keeps a dollar sign from beginning or ending a formula
abbrev pub backslash : ℕ
backslash = byte "\\"

-- any byte or character but the dollar sign
abbrev pub is_other : ℕ → Bool
is_other c = not (c == dollar)

-- the text holds no dollar sign
abbrev pub IsDollarFree : List ℕ → Type 0
IsDollarFree text = IsTrue (list_all is_other text)

-- Lemmas about texts put together.

-- every character but a dollar sign is another one
pub other : (c : ℕ) → c ≢ dollar → IsTrue (is_other c)
other c n = ⊎_elim (λ h. absurd (n h.1)) (λ h. ap not h.0) (eqb_tells c dollar)

-- two texts, one after the other
pub free_both : (a b : List ℕ) → IsDollarFree a → IsDollarFree b → IsDollarFree (a ++ b)
free_both a b x y = list_all-append is_other a b ∙ ap (λ q. q && list_all is_other b) x ∙ y

-- a byte followed by a text
pub free_first : (c : ℕ) (cs : List ℕ) → IsDollarFree (c ∷ cs) → IsTrue (is_other c)
free_first c cs h = (and_parts (is_other c) (list_all is_other cs) h).0

-- what follows a character of a text without a dollar sign has none
pub free_rest : (c : ℕ) (cs : List ℕ) → IsDollarFree (c ∷ cs) → IsDollarFree cs
free_rest c cs h = (and_parts (is_other c) (list_all is_other cs) h).1

-- a text without a dollar sign may be preceded by another character
pub free_more : (c : ℕ) (cs : List ℕ) → IsTrue (is_other c) → IsDollarFree cs → IsDollarFree (c ∷ cs)
free_more c cs h k = ap (λ q. q && list_all is_other cs) h ∙ k

-- a text of one other character has no dollar sign
pub free_one : (c : ℕ) → IsTrue (is_other c) → IsDollarFree (c ∷ [])
free_one c h = free_more c [] h refl
