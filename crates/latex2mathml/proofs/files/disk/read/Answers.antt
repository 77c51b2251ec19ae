use Rattle.latex2mathml.proofs.Walks.{reading_fault}
use Rattle.latex2mathml.proofs.files.disk.read.Goals as goal

pub returns : goal.returns
returns g c = record {
  fault = reading_fault _ _ _ c.read_document.ensures.reading.2;
}
