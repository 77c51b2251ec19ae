use Rattle.std.proofs.Common.{◌≤◌, arith, refl}
use Rattle.latex2mathml_tex_grammar.specs.Refusal.{MissingDelimiter, refusal_at}
use Rattle.latex2mathml_tex_units.specs.Left.{unit_count, units_at}
use Rattle.latex2mathml_tex.specs.Steps.{left_of}
use Rattle.latex2mathml_tex.proofs.parse.Parser.take_outer_delimiter.Goals as goal

pub returns : goal.returns
returns c =
    let p = c.args.self.now in
    let place = c.args.place in
    let missing = c.in_default.ensures in
    let same = c.refuse.ensures.parser in
    let fewer : unit_count (units_at c.take_outer_delimiter.new.self) ≤ unit_count (left_of p) = rw missing.0 (omega arith) in
    rw same (refusal_at MissingDelimiter place, (refl, (refl, (fewer, missing.1 place))))
