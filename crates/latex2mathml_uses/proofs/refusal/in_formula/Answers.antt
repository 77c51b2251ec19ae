use Rattle.std.proofs.Common.{refl}
use Rattle.latex2mathml_uses.proofs.refusal.in_formula.Goals as goal

-- no formula is refused for its dollar signs
pub unreachable-requires : goal.unreachable-requires
unreachable-requires c =
    let other = rw c.in-Err-InvalidNumberOfDollarSigns.field-0-is at c.in-Err-InvalidNumberOfDollarSigns.ensures.dollars in
    other refl
