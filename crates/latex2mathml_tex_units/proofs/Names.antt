-- Names that are in no entry.
use Rattle.std.proofs.Common.{◌≡◌, ℕ, false, List, inl, inr, sym}
use Rattle.std.proofs.{lemmas.Bool.cases_Bool, lemmas.Slice.Eq.bytes_eq-Decides}
use Rattle.std.specs.Str.{bytes_eq}

pub is_other : {name key : List ℕ} → (name ≡ key → ⊥) → bytes_eq key name ≡ false
is_other {name} {key} h = elim (cases_Bool (bytes_eq key name)) [
  | inl e ↦ absurd (h (sym ((bytes_eq-Decides key name).0 e)))
  | inr e ↦ e
]
