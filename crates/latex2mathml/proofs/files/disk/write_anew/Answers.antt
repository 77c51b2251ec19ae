use Rattle.latex2mathml.proofs.Walks.{writing_fault}
use Rattle.latex2mathml.proofs.files.disk.write_anew.Goals as goal

pub returns : goal.returns
returns g c = record {
  fault = writing_fault _ _ _ _ c.write_document.ensures.stopped;
}
