use Rattle.std.proofs.Common.{refl}
use Rattle.std.proofs.KnownBytes.{Keeps-refl}
use Rattle.latex2mathml_tex_program.proofs.serving.serve.Goals as goal

pub returns-in-Ok-clause-served : goal.returns-in-Ok-clause-served
returns-in-Ok-clause-served g c = (c.run.result, c.run.ensures.outcome, rw c.in-Ok.is (refl, (c.requires.errors, Keeps-refl _)))
