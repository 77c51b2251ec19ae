-- The last sign of a row, made ordinary.
use Rattle.std.proofs.Common.{◌≡◌, ℕ, ◌+◌, ◌<◌, zero, suc, List, [], ◌∷◌, ap, arith, drop, refl, subst, take, true}
use Rattle.latex2mathml_elements.specs.Element.{Element}
use Rattle.latex2mathml_tex_grammar.specs.Atoms
use Rattle.latex2mathml_tex_grammar.specs.Rows
use Rattle.latex2mathml_tex_atoms.specs.Models.{restyled_with, row_with, settled_count, under_with}
use Rattle.latex2mathml_tex_atoms.specs.Shapes.{changed_at}
use Rattle.latex2mathml_tex_atoms.specs.declared.atoms.Row.{Row}
use Rattle.latex2mathml_tex_atoms.specs.declared.atoms.Before.TheVariants as before
use Rattle.latex2mathml_tex_commands.specs.declared.meaning.Class.TheVariants as class
use Rattle.latex2mathml_tex_atoms.proofs.Shaping.{same_row}

-- The element below `depth` others changed
module _ (f : Element → Element) where
  -- it is the first of those below
  pub changed_below : (depth : ℕ) (xs : List Element) → drop depth (changed_at f depth xs) ≡ changed_at f 0 (drop depth xs)
  changed_below zero xs = refl
  changed_below (suc depth) [] = refl
  changed_below (suc depth) (x ∷ xs) = changed_below depth xs

  -- those above it stay
  pub kept_above : (depth : ℕ) (xs : List Element) → take depth (changed_at f depth xs) ≡ take depth xs
  kept_above depth [] = refl
  kept_above zero (x ∷ xs) = refl
  kept_above (suc depth) (x ∷ xs) = ap (λ ys. x ∷ ys) (kept_above depth xs)

  -- those further below stay
  pub kept_below : (depth n : ℕ) (xs : List Element) → 0 < n → drop (depth + n) (changed_at f depth xs) ≡ drop (depth + n) xs
  kept_below depth n [] some = refl
  kept_below zero zero (x ∷ xs) some = absurd (omega (arith, some))
  kept_below zero (suc n) (x ∷ xs) some = let count : 0 + suc n ≡ suc n = omega arith in rw count refl
  kept_below (suc depth) n (x ∷ xs) some = let next : suc depth + n ≡ suc (depth + n) = omega arith in rw next (kept_below depth n xs some)

last_changed : (n : ℕ) (xs : List Element) → 0 < n → take n (changed_at Atoms.without_space 0 xs) ≡ Rows.without_last_space true (take n xs)
last_changed zero xs some = absurd (omega (arith, some))
last_changed (suc n) [] some = refl
last_changed (suc n) (x ∷ xs) some = refl

-- a row whose last sign was made ordinary
pub made_ordinary : (row : Row) (xs : List Element) → 0 < row.count → row_with (record row { before = before.After class.Ordinary }) (changed_at Atoms.without_space 0 xs) ≡ Rows.with_ordinary_sign true (row_with row xs)
made_ordinary row xs some =
    let below : (n : ℕ) → 0 < n → drop n (changed_at Atoms.without_space 0 xs) ≡ drop n xs = λ n h. let count : 0 + n ≡ n = omega arith in subst (λ m. drop m (changed_at Atoms.without_space 0 xs) ≡ drop m xs) count (kept_below Atoms.without_space 0 n xs h) in
    same_row _ _ _ _ _ _ _ _ _ _ _ _ _ _
    (last_changed row.count xs some)
    refl
    refl
    refl
    refl
    (ap (restyled_with row.restyled row.settled) (below row.count some))
    (ap (under_with row.under) (below (row.count + settled_count row.restyled row.settled) (omega (arith, some))))
