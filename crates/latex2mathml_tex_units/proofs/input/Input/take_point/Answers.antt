use Rattle.std.proofs.Common.{◌∷◌, [], ap, refl, ◌∙◌}
use Rattle.latex2mathml_tex_grammar.specs.Rules.{a_digit}
use Rattle.latex2mathml_tex_units.specs.Left.{put_back, units_at, units_behind}
use Rattle.latex2mathml_tex_units.proofs.Plain.{other_next}
use Rattle.latex2mathml_tex_units.proofs.input.Input.take_point.Goals as goal

pub returns : goal.returns
returns c =
    let i = c.args.self.now in
    (other_next 46 c.in-Character.c (a_digit ∷ []) (units_at i) (units_behind i) c.in-Unit.unit (c.peek.ensures ∙ ap (λ n. put_back n (units_behind i)) c.in-Unit.is) c.in-Character.is c.if-c-ne46.true, refl)
