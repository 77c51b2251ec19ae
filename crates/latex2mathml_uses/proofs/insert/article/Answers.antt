use Rattle.std.proofs.Common.{[], refl, codes}
use Rattle.latex2mathml_uses.proofs.insert.article.Goals as goal

pub returns-clause-page : goal.returns-clause-page
returns-clause-page c =
    let inside = c.answers.ensures.page c.args.document.now _ c.requires c.in_ok-answer.ensures.answer in
    rw c.in_ok-format.ensures.ok (c.joined_markup.ensures.pages.wrapped (codes "article") [] _ refl refl refl inside)
