use Rattle.latex2mathml_uses.proofs.SecondRuns.{page_free}
use Rattle.latex2mathml_uses.proofs.build.template.Goals as goal

pub returns-clause-dollar_free : goal.returns-clause-dollar_free
returns-clause-dollar_free g c = rw c.page_of.ensures (page_free _ _ _ c.in_ok-read_document.ensures.reading.2)
