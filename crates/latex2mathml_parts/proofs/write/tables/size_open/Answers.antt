use Rattle.std.proofs.Common.{refl}
use Rattle.latex2mathml_parts.proofs.write.tables.size_open.Goals as goal

pub returns-in-Second : goal.returns-in-Second
returns-in-Second c = rw c.in-Second.is refl

pub returns-in-Third : goal.returns-in-Third
returns-in-Third c = rw c.in-Third.is refl

pub returns-in-Fourth : goal.returns-in-Fourth
returns-in-Fourth c = rw c.in-Fourth.is refl
