use Rattle.std.proofs.Common.{[], refl, codes}
use Rattle.latex2mathml_uses.proofs.insert.quotation.Goals as goal

pub returns-clause-elements : goal.returns-clause-elements
returns-clause-elements c =
    (_, c.answers.ensures.elements c.args.document.now _ c.in_ok-answer.ensures.answer, c.in_ok-format.ensures.ok)

pub returns-clause-balanced : goal.returns-clause-balanced
returns-clause-balanced c =
    let inside = c.answers.ensures.balanced c.args.document.now _ c.requires c.in_ok-answer.ensures.answer in
    rw c.in_ok-format.ensures.ok (c.joined_markup.ensures.balanced.wrapped (codes "blockquote") [] _ refl refl inside)
