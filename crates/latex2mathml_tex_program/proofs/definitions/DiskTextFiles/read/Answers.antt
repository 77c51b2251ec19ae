use Rattle.latex2mathml_tex_program.proofs.Files.{unread_file}
use Rattle.latex2mathml_tex_program.proofs.definitions.DiskTextFiles.read.Goals as goal

pub returns-clause-fault : goal.returns-clause-fault
returns-clause-fault g c =
    let source = c.read_text.new.source in
    unread_file _ (record { bytes = g.R.File.Read.remaining source.inner; failed = source.failed; ended = source.ended }) c.read_text.result c.read_text.ensures.fault
