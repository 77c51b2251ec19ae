use Rattle.latex2mathml.specs.Documents.{whole}
use Rattle.latex2mathml.proofs.PlainTexts.{ends_whole, free_whole}
use Rattle.latex2mathml.proofs.document.until_dollar.Goals as goal

pub returns-clause-plain : goal.returns-clause-plain
returns-clause-plain c =
    whole (free_whole c.up_to_dollar.result.0.now c.up_to_dollar.ensures.free (rw c.if-ends_in_backslash.false at c.ends_in_backslash.ensures))

pub returns-clause-ends : goal.returns-clause-ends
returns-clause-ends c =
    let front = c.up_to_dollar.result.0.now in
    ends_whole front c.up_to_dollar.result.1.now (free_whole front c.up_to_dollar.ensures.free (rw c.if-ends_in_backslash.false at c.ends_in_backslash.ensures)) c.up_to_dollar.ensures.ends
