-- Columns that are repeated, written out from left to right.
use Rattle.std.proofs.Common.{◌≡◌, ◌==◌, ℕ, zero, suc, ◌+◌, Bool, false, inl, inr, List, [], ◌∷◌, ◌++◌, append-nil, append_assoc, drop, length, refl, sym, ap, ◌∙◌, arith, take}
use Rattle.std.proofs.lemmas.{Bool.cases_Bool}
use Rattle.std.specs.List.{after_first, before_first, position_or_len, repeat}
use Rattle.std.specs.Str.{byte}
use Rattle.latex2mathml_tex_grammar.specs.Environments.{repeated, written_behind, written_out}

abbrev is_star : ℕ → Bool
is_star c = c == byte "*"

abbrev closes : ℕ → Bool
closes c = c == byte "}"

-- A sign that passes no test is before the first that does

before_next : (p : ℕ → Bool) (c : ℕ) (cs : List ℕ) → p c ≡ false → before_first p (c ∷ cs) ≡ c ∷ before_first p cs
before_next p c cs h = let n : 1 + position_or_len p cs ≡ suc (position_or_len p cs) = omega arith in rw h (ap (λ n. take n (c ∷ cs)) n)

after_next : (p : ℕ → Bool) (c : ℕ) (cs : List ℕ) → p c ≡ false → after_first p (c ∷ cs) ≡ after_first p cs
after_next p c cs h = let n : 1 + position_or_len p cs + 1 ≡ suc (position_or_len p cs + 1) = omega arith in rw h (ap (λ n. drop n (c ∷ cs)) n)

-- Signs with repetitions

behind : (bs : List ℕ) → written_behind bs ≡ written_out (after_first closes bs)
behind [] = refl
behind (c ∷ cs) = elim (cases_Bool (closes c)) [
  | inl h ↦ (rw h refl)
  | inr h ↦ (let next : written_behind (c ∷ cs) ≡ written_behind cs = rw h refl in next ∙ behind cs ∙ ap written_out (sym (after_next closes c cs h)))
]

-- a star: what it means, and what follows it
abbrev from_star : List ℕ → List ℕ
from_star bs = repeated (before_first closes bs) ++ written_out (after_first closes bs)

-- the signs before the first star, and those from it on
starred : (bs : List ℕ) → written_out bs ≡ before_first is_star bs ++ from_star (after_first is_star bs)
starred [] = refl
starred (c ∷ cs) = elim (cases_Bool (is_star c)) [
  | inl h ↦ (rw h (ap (λ l. repeated (before_first closes cs) ++ l) (behind cs)))
  | inr h ↦ (
      let next : written_out (c ∷ cs) ≡ c ∷ written_out cs = rw h refl in
      next
      ∙ ap (λ l. c ∷ l) (starred cs)
      ∙ ap (λ l. l ++ from_star (after_first is_star cs)) (sym (before_next is_star c cs h))
      ∙ ap (λ l. before_first is_star (c ∷ cs) ++ from_star l) (sym (after_next is_star c cs h)))
]

-- a repetition more was written
pub one_written : (signs out bs before behind_star repetition behind_brace more : List ℕ) → out ++ written_out bs ≡ written_out signs → before ≡ before_first is_star bs → behind_star ≡ after_first is_star bs → repetition ≡ before_first closes behind_star → behind_brace ≡ after_first closes behind_star → more ≡ out ++ before ++ repeated repetition → more ++ written_out behind_brace ≡ written_out signs
one_written signs out bs before behind_star repetition behind_brace more all b s r e m =
    let from : repeated repetition ++ written_out behind_brace ≡ from_star behind_star = ap (λ l. repeated l ++ written_out behind_brace) r ∙ ap (λ l. repeated (before_first closes behind_star) ++ written_out l) e in
    let parts : before ++ (repeated repetition ++ written_out behind_brace) ≡ written_out bs =
    ap (λ l. before ++ l) from ∙ ap (λ l. l ++ from_star behind_star) b ∙ ap (λ l. before_first is_star bs ++ from_star l) s ∙ sym (starred bs)
    in
    ap (λ l. l ++ written_out behind_brace) m
    ∙ append_assoc (out ++ before) (repeated repetition) (written_out behind_brace)
    ∙ append_assoc out before (repeated repetition ++ written_out behind_brace)
    ∙ ap (λ l. out ++ l) parts
    ∙ all

-- signs without a star stay as they are
pub unstarred : (bs : List ℕ) → position_or_len is_star bs ≡ length bs → written_out bs ≡ bs
unstarred [] h = refl
unstarred (c ∷ cs) h = elim (cases_Bool (is_star c)) [
  | inl s ↦ absurd (let none : 0 ≡ length (c ∷ cs) = rw s at h in omega arith)
  | inr s ↦ (let none : 1 + position_or_len is_star cs ≡ length (c ∷ cs) = rw s at h in rw s (ap (λ l. c ∷ l) (unstarred cs (omega arith))))
]

pub all_written : (signs out bs more : List ℕ) → out ++ written_out bs ≡ written_out signs → position_or_len is_star bs ≡ length bs → more ≡ out ++ bs → more ≡ written_out signs
all_written signs out bs more all none m = m ∙ ap (λ l. out ++ l) (sym (unstarred bs none)) ∙ all

-- Columns that are appended one time after another

repeated_once_more : (n : ℕ) (cs : List ℕ) → repeat n cs ++ cs ≡ repeat (suc n) cs
repeated_once_more zero cs = sym (append-nil cs)
repeated_once_more (suc n) cs = append_assoc cs (repeat n cs) cs ∙ ap (λ l. cs ++ l) (repeated_once_more n cs)

pub appended_once_more : (before out more cs : List ℕ) (n m : ℕ) → out ≡ before ++ repeat n cs → more ≡ out ++ cs → m ≡ n + 1 → more ≡ before ++ repeat m cs
appended_once_more before out more cs n m so_far pushed next =
    let same : suc n ≡ m = omega arith in
    pushed ∙ ap (λ l. l ++ cs) so_far ∙ append_assoc before (repeat n cs) cs ∙ ap (λ l. before ++ l) (repeated_once_more n cs) ∙ ap (λ k. before ++ repeat k cs) same
