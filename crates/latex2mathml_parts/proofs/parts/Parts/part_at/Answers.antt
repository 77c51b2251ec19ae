use Rattle.std.proofs.Common.{arith}
use Rattle.latex2mathml_parts.proofs.Forests.{forest_more}
use Rattle.latex2mathml_parts.proofs.parts.Parts.part_at.Goals as goal

pub returns-clause-trees : goal.returns-clause-trees
returns-clause-trees c = grind (arith, forest_more)
