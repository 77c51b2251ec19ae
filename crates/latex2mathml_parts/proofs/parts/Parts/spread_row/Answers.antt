use Rattle.latex2mathml_parts.proofs.Changes.{stands_spread}
use Rattle.latex2mathml_parts.proofs.parts.Parts.spread_row.Goals as goal

pub replace_last-requires-clause-stands : goal.replace_last-requires-clause-stands
replace_last-requires-clause-stands c =
    let f = c.args.self.now in
    rw c.len.ensures.count (stands_spread f.texts f.list c.args.align c.args.count c.args.style c.before-2.result c.requires.all c.requires.fits c.requires.row c.before-2.ensures.within c.before-2.ensures.trees)
