use Rattle.std.proofs.{Common.Some, lemmas.Str.IsUtf8-string_bytes}
use Rattle.std.specs.Prelude.{IsUtf8}
use Rattle.latex2mathml.specs.Dollars.{IsDollarFree}
use Rattle.latex2mathml_uses.proofs.SecondRuns.{page_free, refuses_nothing}
use Rattle.latex2mathml_uses.proofs.build.built_twice.Goals as goal

pub returns-clause-fault : goal.returns-clause-fault
returns-clause-fault g c =
    let first = c.in_ok-read_document.ensures.reading in
    let page : IsDollarFree c.new-written.result.inner.now = rw (c.new-written.ensures.inner, c.as_bytes.ensures.value, c.page_of-page.ensures) (page_free _ _ _ first.2) in
    let text : IsUtf8 c.new-written.result.inner.now = rw (c.new-written.ensures.inner, c.as_bytes.ensures.value) (IsUtf8-string_bytes c.page_of-page.result) in
    (first.0, first.1, refuses_nothing first.0 c.new-written.result.inner.now (Some c.read_document-2.new.source.inner.now) _ _ _ c.in-Err.ensures.reading.1 c.read_document-2.ensures.all_read page text c.in-Err.ensures.reading.2)
