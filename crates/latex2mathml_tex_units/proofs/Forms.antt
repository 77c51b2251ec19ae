-- What becomes of the use of a macro, by the form that is used: with its star, or without.
use Rattle.std.proofs.Common.{◌≡◌, ℕ, suc, Bool, true, false, List, Option, Some, None, ap, option_map, refl, subst, sym, ◌∙◌}
use Rattle.std.specs.Str.{byte}
use Rattle.latex2mathml_tex_grammar.specs.Arguments.{macro_arguments}
use Rattle.latex2mathml_tex_grammar.specs.Definitions.{sign}
use Rattle.latex2mathml_tex_grammar.specs.Expansion.{form_of, form_with, starred_form, replaced, used, used_form, with_arguments}
use Rattle.latex2mathml_tex_grammar.specs.{Macros.Macro, Macros.Part, Macros.Table, Macros.put, Operands.body_as, Operands.used_as, Reading.Read}
use Rattle.latex2mathml_tex_grammar.specs.Units as units
use Rattle.latex2mathml_tex_grammar.specs.Units.{Units}

-- the form that is used of a macro as an operand is that of the macro
form_as : (whole : Bool) (m : Macro) (l : Units) → form_of (used_as whole m) l ≡ (used_as whole (form_of m l).0, (form_of m l).1)
form_as whole m l = with_star m.starred
  where
    found : (body : List Part) (star : Bool × Units) → starred_form (used_as whole m) (body_as whole body) star ≡ (used_as whole (starred_form m body star).0, (starred_form m body star).1)
    found body (true, k) = refl
    found body (false, k) = refl

    with_star : (starred : Option (List Part)) → form_with (used_as whole m) (option_map (body_as whole) starred) l ≡ (used_as whole (form_with m starred l).0, (form_with m starred l).1)
    with_star (Some body) = found body (sign (byte "*") l)
    with_star None = refl

pub put_as : (whole : Bool) (table : Table) (uses left room : ℕ) (u : units.Unit) (m form : Macro) (l k rest : Units) (args : List (List units.Unit))
    → suc left ≡ uses
    → (form, k) ≡ form_of m l
    → macro_arguments form u.place k ≡ Read args rest
    → replaced table left room u (put args u.place (body_as whole form.body)) rest ≡ used table uses room u (used_as whole m) l
put_as whole table uses left room u m form l k rest args one e d =
    subst (λ n. replaced table left room u (put args u.place (body_as whole form.body)) rest ≡ used table n room u (used_as whole m) l) one
    (ap (with_arguments table left room u (body_as whole form.body)) (sym d) ∙ ap (λ f. used_form table left room u (used_as whole f.0, f.1)) e ∙ ap (used_form table left room u) (sym (form_as whole m l)))
