use Rattle.latex2mathml.specs.Dollars.{free_both}
use Rattle.latex2mathml_uses.proofs.store.beside.Goals as goal

pub returns-clause-page : goal.returns-clause-page
returns-clause-page c =
    let (text, display, first) = c.requires.first in
    let (other, set, second) = c.requires.second in
    let pages = c.joined_markup.ensures.pages in
    let element = c.renderings.ensures.elements in
    rw c.in_ok-format.ensures.ok (pages.joined _ _ (pages.element _ (element text display _ first)) (pages.element _ (element other set _ second)))

pub returns-clause-dollar_free : goal.returns-clause-dollar_free
returns-clause-dollar_free c =
    let (text, display, first) = c.requires.first in
    let (other, set, second) = c.requires.second in
    let free = c.renderings.ensures.dollar_free in
    rw c.in_ok-format.ensures.ok (free_both c.args.first.now c.args.second.now (free text display _ first) (free other set _ second))
