use Rattle.std.proofs.Common.{◌≡◌, ◌+◌, arith, drop, subst}
use Rattle.latex2mathml_builder.specs.Built.{elements_in}
use Rattle.latex2mathml_tex_atoms.specs.Models.{row_count}
use Rattle.latex2mathml_tex_atoms.proofs.operands.end_operand.Goals as goal

pub returns-then-awaits_second-clause-below : goal.returns-then-awaits_second-clause-below
returns-then-awaits_second-clause-below c =
    let n = row_count c.args.row in
    let count : 0 + n ≡ n = omega arith in
    subst (λ m. drop m (elements_in c.make_ordinary.new.builder) ≡ drop m (elements_in c.args.builder.now)) count
    (c.make_ordinary.ensures.below n (omega arith))
