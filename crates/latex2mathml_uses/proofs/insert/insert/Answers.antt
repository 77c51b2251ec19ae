use Rattle.latex2mathml_uses.proofs.insert.insert.Goals as goal

pub returns-clause-balanced : goal.returns-clause-balanced
returns-clause-balanced c =
    let joins = c.joined_markup.ensures.balanced in
    let element = joins.page _ (c.joined_markup.ensures.pages.element _ c.in_ok-markup.ensures.element) in
    rw (c.in_ok-push_str.ensures.bytes, c.as_str.ensures.value) (joins.joined _ _ c.requires element)
