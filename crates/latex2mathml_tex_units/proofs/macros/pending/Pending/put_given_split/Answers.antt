use Rattle.std.proofs.Common.{◌≡◌, ◌∙◌, ◌≤◌, [], ap, map, refl, sym, add-zero, arith, length}
use Rattle.latex2mathml_tex_grammar.specs.Macros.{argument_at}
use Rattle.latex2mathml_tex_units.specs.{Pending.units_in, Taking.unit_of}
use Rattle.latex2mathml_tex_units.proofs.PuttingBodies.{argument_past, argument_there}
use Rattle.latex2mathml_tex_units.proofs.macros.pending.Pending.put_given_split.Goals as goal

pub returns-then-number-given : goal.returns-then-number-given
returns-then-number-given c =
    let e : argument_at (map units_in c.args.given.now) c.args.number ≡ map unit_of c.deref.result.now =
    argument_there c.args.given.now c.args.number c.index-given-number.result c.if-number-given.true
    ∙ ap units_in (sym c.index-given-number.is) ∙ ap (map unit_of) (sym c.deref.ensures.value) in
    rw e c.put_split.ensures

pub returns-else-number-given : goal.returns-else-number-given
returns-else-number-given c =
    let past : length c.args.given.now ≤ c.args.number = omega (arith, c.if-number-given.false) in
    let e : argument_at (map units_in c.args.given.now) c.args.number ≡ [] = argument_past c.args.given.now c.args.number past in
    rw e (sym (add-zero _), refl)
