-- An atom with its scripts: the base below them changed, and all of them made one element.
use Rattle.std.proofs.Common.{◌≡◌, ℕ, ◌+◌, ◌-◌, ◌≤◌, Bool, false, true, zero, suc, List, [], ◌∷◌, Option, None, length, drop, arith, refl, sym, ap, ◌∙◌}
use Rattle.std.proofs.lemmas.List.{length-drop}
use Rattle.std.specs.Option.{is_some}
use Rattle.latex2mathml_elements.specs.Element.{Element}
use Rattle.latex2mathml_tex_grammar.specs.Atoms.{Atom, Before, Kind, atom, element_there}
use Rattle.latex2mathml_tex_grammar.specs.Heights.{Height, scripted_height}
use Rattle.latex2mathml_tex_grammar.specs.Makes.{Scripts, are_drawn_stacked, are_stacked, base_there, before_base, fixed_base, scripted, scripted_atom, scripted_kind, superscript, with_scripts}
use Rattle.latex2mathml_tex_grammar.specs.Meaning.{LimitPlace}
use Rattle.latex2mathml_tex_grammar.specs.Symbols.{Style}
use Rattle.latex2mathml_tex_atoms.proofs.Shaping.{length_changed}
use Rattle.latex2mathml_tex_commands.specs.Meanings.{limit_place_of}
use Rattle.latex2mathml_tex_atoms.specs.Models.{element_above, element_below, height_of, one_if, script_count, scripts_with, top}
use Rattle.latex2mathml_tex_atoms.specs.Shapes.{changed_at}
use Rattle.latex2mathml_tex_atoms.specs.declared.atoms.Scripts.{Scripts as CodeScripts}
use Rattle.latex2mathml_tex_commands.specs.declared.meaning.LimitPlace.{LimitPlace as CodeLimitPlace}
use Rattle.latex2mathml_tex_commands.specs.declared.meaning.LimitPlace.TheVariants as code_limit_place

-- a base whose limits may move stays what it is
pub not_fixed : (limits : CodeLimitPlace) → (limits ≡ code_limit_place.Stacked → ⊥) → (x : Element) → fixed_base (limit_place_of limits) x ≡ x
not_fixed code_limit_place.Stacked other x = absurd (other refl)
not_fixed limits other x = refl

next : (n : ℕ) → n + 1 ≡ suc n
next n = omega arith

drop_next : (n : ℕ) (xs : List Element) → drop (suc n) xs ≡ drop 1 (drop n xs)
drop_next zero xs = refl
drop_next (suc n) [] = refl
drop_next (suc n) (x ∷ xs) = drop_next n xs

-- The base changed

module _ (f : Element → Element) where
  base_changed : (n : ℕ) (xs : List Element) → n + 1 ≤ length xs → top (drop n (changed_at f n xs)) ≡ f (top (drop n xs))
  base_changed n [] enough = absurd (omega (arith, enough))
  base_changed zero (x ∷ xs) enough = refl
  base_changed (suc n) (x ∷ xs) enough = base_changed n xs (omega (arith, enough))

  -- changing the base leaves what is below it
  below_changed : (n : ℕ) (xs : List Element) → drop (suc n) (changed_at f n xs) ≡ drop (suc n) xs
  below_changed n [] = refl
  below_changed zero (x ∷ xs) = refl
  below_changed (suc n) (x ∷ xs) = below_changed n xs

  -- changing the base leaves the scripts
  subscript_kept : (below above is_exchanged : Bool) (xs : List Element) → element_below below above is_exchanged (changed_at f (one_if below + one_if above) xs) ≡ element_below below above is_exchanged xs
  subscript_kept false above is_exchanged xs = refl
  subscript_kept true false is_exchanged [] = refl
  subscript_kept true false is_exchanged (x ∷ xs) = refl
  subscript_kept true true is_exchanged [] = refl
  subscript_kept true true false (x ∷ []) = refl
  subscript_kept true true false (x ∷ y ∷ xs) = refl
  subscript_kept true true true (x ∷ xs) = refl

  superscript_kept : (below above is_exchanged : Bool) (xs : List Element) → element_above below above is_exchanged (changed_at f (one_if below + one_if above) xs) ≡ element_above below above is_exchanged xs
  superscript_kept below false is_exchanged xs = refl
  superscript_kept false true is_exchanged [] = refl
  superscript_kept false true is_exchanged (x ∷ xs) = refl
  superscript_kept true true is_exchanged [] = refl
  superscript_kept true true false (x ∷ xs) = refl
  superscript_kept true true true (x ∷ []) = refl
  superscript_kept true true true (x ∷ y ∷ xs) = refl

-- The atom

no_subscript : (below above is_exchanged : Bool) (xs : List Element) → element_below below above is_exchanged xs ≡ None → below ≡ false
no_subscript false above is_exchanged xs none = refl
no_subscript true false is_exchanged xs none = cc
no_subscript true true false xs none = cc
no_subscript true true true xs none = cc

no_superscript : (below above is_exchanged : Bool) (xs : List Element) → element_above below above is_exchanged xs ≡ None → above ≡ false
no_superscript below false is_exchanged xs none = refl
no_superscript false true is_exchanged xs none = cc
no_superscript true true false xs none = cc
no_superscript true true true xs none = cc

has_superscript : (below above is_exchanged : Bool) (xs : List Element) → above ≡ is_some (element_above below above is_exchanged xs)
has_superscript below false is_exchanged xs = refl
has_superscript false true is_exchanged xs = refl
has_superscript true true false xs = refl
has_superscript true true true xs = refl

with_some : (style : Style) (before : Before) (base : Atom) (scripts : Scripts) (below above : Option Element) → (below ≡ None → above ≡ None → ⊥) → atom (scripted_kind base.kind) (scripted_height style (are_drawn_stacked style scripts.limits) base.height scripts.height (is_some above)) (with_scripts (are_stacked style scripts.limits) (fixed_base scripts.limits (base_there style before base)) below above) ≡ scripted_atom style before base scripts below above
with_some style before base scripts None None some = absurd (some refl refl)
with_some style before base scripts below above some = refl

assembled : (style : Style) (before : Before) (base : Atom) (scripts : Scripts) (kind : Kind) (limits : LimitPlace) (height : Height) (has_above : Bool) (x : Element) (below above : Option Element) → kind ≡ scripted_kind base.kind → x ≡ fixed_base limits (base_there style before base) → limits ≡ scripts.limits → below ≡ scripts.below → above ≡ superscript scripts.primes scripts.above → (below ≡ None → above ≡ None → ⊥) → height ≡ scripts.height → has_above ≡ is_some above → atom kind (scripted_height style (are_drawn_stacked style limits) base.height height has_above) (with_scripts (are_stacked style limits) x below above) ≡ scripted style before base scripts
assembled style before base scripts kind limits height has_above x below above k p q r s some e f =
    rw (k, p, e, f, q, r, s) (with_some style before base scripts scripts.below (superscript scripts.primes scripts.above) (λ b a. some (r ∙ b) (s ∙ a)))

-- scripts, and the same with a mark of their primes, each with the elements next to it
module _ (scripts whole : CodeScripts) (xs ys : List Element) (same : scripts_with whole ys ≡ record (scripts_with scripts xs) { above = superscript scripts.primes (scripts_with scripts xs).above }) (base : drop (script_count whole) ys ≡ drop (script_count scripts) xs) (enough : script_count scripts + 1 ≤ length xs) where
  room : script_count whole + 1 ≤ length ys
  room =
      let n = script_count whole in
      let m = script_count scripts in
      let left : length ys - n ≡ length xs - m = sym (length-drop n ys) ∙ ap length base ∙ length-drop m xs in
      omega (arith, left, enough)

  -- the base adapted to what precedes it
  abbrev adapted : Style → Before → Kind → Element → Element
  adapted style before kind x = fixed_base (limit_place_of whole.limits) (element_there style true (before_base kind before) kind x)

  abbrev fixed : Style → Before → Kind → List Element
  fixed style before kind = changed_at (adapted style before kind) (script_count whole) ys

  pub room_fixed : (style : Style) (before : Before) (kind : Kind) → script_count whole + 1 ≤ length (fixed style before kind)
  room_fixed style before kind = omega (arith, room, length_changed (adapted style before kind) (script_count whole) ys)

  pub left_below : (style : Style) (before : Before) (kind : Kind) → drop (script_count whole + 1) (fixed style before kind) ≡ drop (script_count scripts + 1) xs
  left_below style before kind =
      ap (λ n. drop n (fixed style before kind)) (next (script_count whole))
      ∙ below_changed (adapted style before kind) (script_count whole) ys
      ∙ drop_next (script_count whole) ys
      ∙ ap (drop 1) base
      ∙ sym (drop_next (script_count scripts) xs)
      ∙ ap (λ n. drop n xs) (sym (next (script_count scripts)))

  pub made : (style : Style) (before : Before) (kind scripted_as : Kind) (height : Height) (is_stacked : Bool) (zs : List Element) → scripted_as ≡ scripted_kind kind → is_stacked ≡ are_stacked style (limit_place_of whole.limits) → zs ≡ fixed style before kind → (whole.below ≡ false → whole.above ≡ false → ⊥) → atom scripted_as (scripted_height style (are_drawn_stacked style (limit_place_of whole.limits)) height (height_of whole.height) whole.above) (with_scripts is_stacked (top (drop (script_count whole) zs)) (scripts_with whole zs).below (scripts_with whole zs).above) ≡ scripted style before (atom kind height (top (drop (script_count scripts) xs))) (scripts_with scripts xs)
  made style before kind scripted_as height is_stacked zs k t z some =
      let limits = limit_place_of whole.limits in
      let f = adapted style before kind in
      let zs = fixed style before kind in
      rw (t, z)
      (assembled style before (atom kind height (top (drop (script_count scripts) xs))) (scripts_with scripts xs) scripted_as limits (height_of whole.height) whole.above _ _ _
      k
      (base_changed f (script_count whole) ys room ∙ ap (λ l. f (top l)) base)
      (ap (λ s. s.limits) same)
      (subscript_kept f whole.below whole.above whole.is_exchanged ys ∙ ap (λ s. s.below) same)
      (superscript_kept f whole.below whole.above whole.is_exchanged ys ∙ ap (λ s. s.above) same)
      (λ b a. some (no_subscript whole.below whole.above whole.is_exchanged zs b) (no_superscript whole.below whole.above whole.is_exchanged zs a))
      (ap (λ s. s.height) same)
      (has_superscript whole.below whole.above whole.is_exchanged zs))
