-- What holds of a choice.
use Rattle.std.proofs.Common.{◌≡◌, Bool, true, false, Option, Some, refl, subst}
use Rattle.std.specs.Prelude.{if◌then◌else◌}

-- what holds of both holds of either
pub of_either : {A : Type 0} (P : A → Type 0) (b : Bool) {x y : A} → P x → P y → P (if b then x else y)
of_either P true p q = p
of_either P false p q = q

-- what holds of a value, and of what was found before, holds of the one that is found
pub of_found : {A : Type 0} (P : A → Type 0) (b : Bool) (x found : A) (before : Option A) → P x → ((y : A) → before ≡ Some y → P y) → (if b then Some x else before) ≡ Some found → P found
of_found P true x found before h t e = (let same : x ≡ found = cc in subst P same h)
of_found P false x found before h t e = t found e

-- what holds of each where the test chooses it holds of the choice
pub of_chosen : {A : Type 0} (P : A → Type 0) (b : Bool) {x y : A} → (b ≡ true → P x) → (b ≡ false → P y) → P (if b then x else y)
of_chosen P true p q = p refl
of_chosen P false p q = q refl
