-- Equality as a test that returns true or false, for values whose equality is decidable.
use Rattle.std.specs.Prelude.{◌≡◌, Bool, true, false, Option, Some, None, is_some, unwrap_or, refl}
use Rattle.std.specs.{Bool.Decides, Cmp.IsPartialEquivalence, Cmp.decided, Cmp.on_per, Cmp.partial_equiv_from_equiv}
use Rattle.std.proofs.Common.{sym, ap}
use Rattle.std.proofs.lemmas.Bool.{false≢true}
use mathlib.Core.HLevel.{Discrete}
use native.Mathlib.Decide.{ℕ_discrete, map_dec}
use denote.Enum.{Bare.Bare, Bare.tag_one, Declared.Declared, Declared.tag_of}

abbrev pub is_yes : {P : Type 0} → Dec P → Bool
is_yes (yes p) = true
is_yes (no q) = false

-- whether the two values are equal
abbrev pub same : {A : Type 0} → Discrete A → A → A → Bool
same decide x y = is_yes (decide x y)

is_yes-Decides : {P : Type 0} (d : Dec P) → Decides (is_yes d) P
is_yes-Decides (yes p) = (λ h. p, λ h. refl)
is_yes-Decides (no q) = (λ h. absurd (false≢true h), λ p. absurd (q p))

-- the test of the images of two values under f is symmetric and transitive
pub same_laws : {A K : Type 0} (decide : Discrete A) (f : K → A) → IsPartialEquivalence (λ a b. same decide (f a) (f b))
same_laws decide f = on_per f (partial_equiv_from_equiv (decided (same decide) (λ x y. is_yes-Decides (decide x y))))

-- equality is decidable where it is decidable for the images of a map that is one to one
pub told_apart_by : {A B : Type 0} (f : A → B) → ((x y : A) → f x ≡ f y → x ≡ y) → Discrete B → Discrete A
told_apart_by f one decide x y = map_dec (one x y) (ap f) (decide (f x) (f y))

-- an enum without fields is told apart by the place of its variant
pub bare : (D : Declared) → Bare D.parts → Discrete D.D
bare D none = told_apart_by (tag_of D) (tag_one D none) ℕ_discrete

-- equality is decidable for values that may be missing
pub optional : {A : Type 0} → Discrete A → Discrete (Option A)
optional decide None None = yes refl
optional decide None (Some y) = no (λ e. false≢true (ap is_some e))
optional decide (Some x) None = no (λ e. false≢true (sym (ap is_some e)))
optional decide (Some x) (Some y) = map_dec (ap Some) (ap (λ o. unwrap_or o x)) (decide x y)
