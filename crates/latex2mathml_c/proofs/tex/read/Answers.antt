use Rattle.std.proofs.Common.{refl}
use Rattle.latex2mathml_c.proofs.tex.read.Goals as goal

pub returns-in-Ok-markup : goal.returns-in-Ok-markup
returns-in-Ok-markup c =
    let defined = c.in-Ok.ensures.answer in
    (refl, (defined.0, defined.1, c.in-Ok-markup.ensures.markup c.in-Ok.ensures.defined defined.0 defined.2))
