use Rattle.std.proofs.{Common.refl, Output.has_written_append}
use Rattle.latex2mathml_tex_units.proofs.error.write_two.Goals as goal

pub returns : goal.returns
returns g c = λ plain ok.
    let before = c.in_ok-write_str.ensures.writes plain refl in
    has_written_append _ _ _ _ _ _ before (c.write_str-2.ensures.writes before.plain ok)
