-- Lengths that are tested for zero.
use mir.Val.{SFits}
use Rattle.std.proofs.Common.{◌≡◌, false, inl, inr, not, of_z, pos, refl, sym, to_z, w32, ℤ, ◌∙◌, ap, arith, nat_eq, zero, suc, negsuc}
use Rattle.std.proofs.lemmas.{Bool.cases_Bool, Bool.Decides.nat_tests, Int.ints}
use Rattle.latex2mathml_tex_grammar.specs.Rules.{has_width}

not_zero : (width : ℤ) → SFits w32 width → (width ≡ pos 0 → ⊥) → nat_eq (of_z w32 width) 0 ≡ false
not_zero width fits some = elim (cases_Bool (nat_eq (of_z w32 width) 0)) [
  | inl e ↦ (
      let same : to_z w32 (of_z w32 width) ≡ width = omega (arith, ints) in
      let none : of_z w32 width ≡ 0 = grind (arith, nat_tests) in
      absurd (some (sym same ∙ ap (to_z w32) none))
      )
  | inr e ↦ e
]

pub width_tested : (width : ℤ) → SFits w32 width → not (nat_eq (of_z w32 width) 0) ≡ has_width width
width_tested (pos zero) fits = refl
width_tested (pos (suc n)) fits = rw (not_zero (pos (suc n)) fits (λ e. cc)) refl
width_tested (negsuc n) fits = rw (not_zero (negsuc n) fits (λ e. cc)) refl
