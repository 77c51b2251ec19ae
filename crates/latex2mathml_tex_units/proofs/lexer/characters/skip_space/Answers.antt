use Rattle.std.proofs.Common.{◌∙◌, ◌≡◌, ◌<◌, [], ap, arith, get_or, refl, sym}
use Rattle.latex2mathml_tex_units.proofs.Spaces.{no_space}
use Rattle.latex2mathml_tex_units.proofs.lexer.characters.skip_space.Goals as goal

pub returns-in-Some : goal.returns-in-Some
returns-in-Some c =
    let here : get_or c.args.text.now 0 0 ≡ c.in-Some.first.now = ap (λ t. get_or t 0 0) (sym c.as_bytes.ensures.value) ∙ sym (c.in-Some.ensures.item.3.1 0) in
    let more : 32 < get_or c.args.text.now 0 0 = omega (arith, here, c.if-first-gt32.true) in
    ([], (refl, record { passes = tt; ends = no_space c.args.text.now c.utf8.text more }))
