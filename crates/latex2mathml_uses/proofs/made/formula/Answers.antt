use Rattle.std.proofs.Common.{[], refl, codes}
use Rattle.latex2mathml_uses.proofs.made.formula.Goals as goal

pub returns : goal.returns
returns c = rw c.in_ok-format.ensures.ok (c.joined_markup.ensures.balanced.wrapped (codes "math") [] _ refl refl c.balanced.ensures)
