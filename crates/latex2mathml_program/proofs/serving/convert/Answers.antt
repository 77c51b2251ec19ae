use Rattle.std.proofs.Common.{refl}
use Rattle.latex2mathml_program.specs.Serving.{NoMemory, WalkEnded}
use Rattle.latex2mathml_program.proofs.serving.convert.Goals as goal

pub returns-in_default : goal.returns-in_default
returns-in_default g c = record { told = NoMemory refl c.put_line.ensures.put }

pub returns : goal.returns
returns g c = record {
  told = WalkEnded c.in-Ok.unconverted.items c.in-Ok.ensures.walked (rw c.as_slice.ensures.value at c.tell.ensures.told);
}
