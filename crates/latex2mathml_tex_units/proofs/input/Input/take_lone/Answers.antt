use Rattle.std.proofs.Common.{arith}
use Rattle.latex2mathml_tex_units.specs.Left.{units_end}
use Rattle.latex2mathml_tex_units.proofs.Lone.{lone_alone, lone_in_braces}
use Rattle.latex2mathml_tex_units.proofs.input.Input.take_lone.Goals as goal

pub returns-in-Character-clause-taken : goal.returns-in-Character-clause-taken
returns-in-Character-clause-taken c =
    let i = c.args.self.now in
    let same = c.as_slice-units.ensures.value in
    lone_alone i.units.items i.taken _ c.in-Character.c (units_end i.end) (rw same at c.if-taken-units.false) (rw same at c.in-Character.is)

pub returns-clause-taken : goal.returns-clause-taken
returns-clause-taken c =
    let i = c.args.self.now in
    let same = c.as_slice-units.ensures.value in
    let three = rw same at c.if-units-taken-ge3.true in
    lone_in_braces i.units.items i.taken _ c.in-Character-piece.c (units_end i.end) (omega arith) (rw same at c.in-Open.is) (rw same at c.in-Character-piece.is) (rw same at c.in-Close.is)
