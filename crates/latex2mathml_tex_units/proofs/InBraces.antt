-- Bodies that are put in braces.
use Rattle.std.specs.Prelude.{IfOk, Result, Ok, Err}
use Rattle.std.proofs.Common.{◌≡◌, ◌∙◌, ◌+◌, ◌<◌, ℕ, suc, Bool, true, false, List, [], ◌∷◌, ◌++◌, length, length-append, append_assoc, refl, ap, sym, arith}
use Rattle.latex2mathml_tex_grammar.specs.Macros.{Part, Fixed, before, put, put_part}
use Rattle.latex2mathml_tex_grammar.specs.Operands.{in_braces}
use Rattle.latex2mathml_tex_grammar.specs.Units.{Close, Open, Unit, Units, unit, Next}
use Rattle.latex2mathml_tex_units.specs.Putting.{IsPut}
use Rattle.latex2mathml_tex_units.proofs.PuttingBodies.{before-append}

put-append : (args : List (List Unit)) (place : ℕ) (parts more : List Part) → put args place (parts ++ more) ≡ put args place parts ++ put args place more
put-append args place [] more = refl
put-append args place (part ∷ parts) more =
    ap (λ us. put_part args place part ++ us) (put-append args place parts more)
    ∙ sym (append_assoc (put_part args place part) (put args place parts) (put args place more))

module _ (args : List (List Unit)) (place : ℕ) (body : List Part) where
  abbrev pub inside : List Unit
  inside = put args place body

  abbrev pub closing : List Unit
  closing = unit Close place ∷ []

  whole : put args place (in_braces body) ≡ unit Open place ∷ (inside ++ closing)
  whole = ap (λ us. unit Open place ∷ us) (put-append args place body (Fixed Close ∷ []))

  long : length (put args place (in_braces body)) ≡ suc (length inside + 1)
  long = ap length whole ∙ ap suc (length-append inside closing)

  -- there is no room for the closing brace
  pub no_closing : (room left : ℕ) (l m : Units) → IsPut false closing room left l m → room < length (put args place (in_braces body))
  no_closing room left l m none = omega (arith, none, long)

  -- nor for what is inside
  pub no_inside : (first room left : ℕ) (l m k n : Units) → IsPut true closing first room l m → IsPut false inside room left k n → first < length (put args place (in_braces body))
  no_inside first room left l m k n (is, behind) none = omega (arith, is, none, long)

  -- the opening brace is put last
  pub braces_put : (done : Bool) (first room left last : ℕ) (l m k n : Units) → IsPut true closing first room l m → IsPut true inside room left m k → IsPut done (unit Open place ∷ []) left last k n
      → IsPut done (put args place (in_braces body)) first last l n
  braces_put true first room left last l m k n (is, behind) (is', behind') (is'', behind'') = (
    omega (arith, is, is', is'', long),
    behind'' ∙ ap (Next (unit Open place)) (behind' ∙ ap (before inside) behind ∙ sym (before-append inside closing l)) ∙ sym (ap (λ us. before us l) whole),
  )
  braces_put false first room left last l m k n (is, behind) (is', behind') none = omega (arith, is, is', none, long)

  -- if it was put at all
  pub braces_put_if : {E : Type 0} (result : Result Bool E) (first room left last : ℕ) (l m k n : Units) → IsPut true closing first room l m → IsPut true inside room left m k
      → IfOk result (λ done. IsPut done (unit Open place ∷ []) left last k n)
      → IfOk result (λ done. IsPut done (put args place (in_braces body)) first last l n)
  braces_put_if (Ok done) first room left last l m k n h i j = braces_put done first room left last l m k n h i j
  braces_put_if (Err e) first room left last l m k n h i j = tt
