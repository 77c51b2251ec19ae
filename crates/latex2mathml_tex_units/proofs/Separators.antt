-- No more units are left than an input has.
use Rattle.std.proofs.Common.{◌≡◌, ◌≤◌, suc, List, [], ◌∷◌, ap, arith, drop, length, map, refl}
use Rattle.std.proofs.lemmas.List.{length-drop}
use Rattle.latex2mathml_tex_grammar.specs.Macros.{before}
use Rattle.latex2mathml_tex_units.specs.{Left.unit_count, Left.units_at, Left.units_end, Taking.unit_of}
use Rattle.latex2mathml_tex_units.specs.declared.{input.Input.Input, macros.whole.End.End, unit.Unit.Unit}
use Rattle.latex2mathml_tex_units.specs.declared.macros.whole.End.TheVariants as end

counted : (us : List Unit) (e : End) → unit_count (before (map unit_of us) (units_end e)) ≡ length us
counted [] (end.Text place) = refl
counted [] (end.Fault fault place) = refl
counted (u ∷ us) e = ap suc (counted us e)

pub no_more_left : (i : Input) → unit_count (units_at i) ≤ length i.units.items
no_more_left i =
    let left = drop i.taken i.units.items in
    rw (counted left i.end) (omega (arith, length-drop i.taken i.units.items))
