use Rattle.std.proofs.{Common.Some, Common.◌++◌}
use Rattle.std.specs.{Fmt.DisplaysOnOk, Prelude.codes}
use Rattle.latex2mathml_tex_units.specs.ErrorTexts.{four_digits}
use Rattle.latex2mathml_tex_units.proofs.Hexadecimal.{zeros_before}
use Rattle.latex2mathml_tex_units.proofs.error.write_forbidden.Goals as goal

pub returns : goal.returns
returns g c =
    let writes : DisplaysOnOk g.W.Write.write_str_gives c.args.f.now c.write.result (Some (codes "forbidden character U+" ++ four_digits c.args.c)) c.write.new.self
    = rw (c.laid_out.ensures, c.in_radix.ensures, zeros_before, c.from.ensures) at c.write.ensures.writes in
    λ plain ok. writes plain ok
