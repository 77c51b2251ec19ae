use Rattle.std.proofs.Common.{refl}
use Rattle.latex2mathml_tex_commands.proofs.colors.color_of_three.Goals as goal

pub returns : goal.returns
returns c =
    rw (c.with_components.ensures, c.component_of.ensures, c.component_of-2.ensures, c.component_of-3.ensures)
    (rw (c.around.ensures.before, c.around-2.ensures.before, c.around-2.ensures.behind, c.around.ensures.behind) refl)
