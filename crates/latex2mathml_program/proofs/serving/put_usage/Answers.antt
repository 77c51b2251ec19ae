use Rattle.latex2mathml_program.specs.Serving.{Found}
use Rattle.latex2mathml_program.proofs.serving.put_usage.Goals as goal

pub returns-in-Ok : goal.returns-in-Ok
returns-in-Ok g c = record { put = (_, Found c.put_line.ensures.put) }
