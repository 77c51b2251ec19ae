-- Spaces whose markup is known.
use Rattle.std.proofs.Common.{◌≡◌, ◌∙◌, ℕ, ◌+◌, ◌<◌, ℤ, List, ◌∷◌, ◌++◌, ap, codes, cond, is_ok, sym, Result, Ok, Err}
use Rattle.std.proofs.lemmas.Fmt.{decimal_digit}
use Rattle.std.specs.{Fmt.decimal, Prelude.OnOk}
use Rattle.latex2mathml_elements.specs.{Element.space, Print.print}

-- the markup of a space of less than 10 ems, from its whole ems and what comes after them
pub shown : (ems : ℕ) (after : List ℕ) → ems < 10 → codes "<mspace width=\"" ++ ((decimal ems ++ after) ++ codes "em\"/>") ≡ codes "<mspace width=\"" ++ ((48 + ems) ∷ (after ++ codes "em\"/>"))
shown ems after h = ap (λ l. codes "<mspace width=\"" ++ ((l ++ after) ++ codes "em\"/>")) (decimal_digit ems h)

-- the markup of a space is pushed if there is memory
pub pushed : {T E : Type 0} (r : Result T E) (width usual : ℤ) (old new markup : List ℕ) → width ≡ usual → print (space usual) ≡ markup → new ≡ cond (is_ok r) (old ++ markup) old → OnOk r (new ≡ old ++ print (space width))
pushed (Ok x) width usual old new markup same shows is =
    is ∙ ap (λ l. old ++ l) (sym (ap (λ w. print (space w)) same ∙ shows))
pushed (Err e) width usual old new markup same shows is = tt
