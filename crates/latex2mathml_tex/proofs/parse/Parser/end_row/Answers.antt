use Rattle.latex2mathml_tex.proofs.Resting.{finished_can, row_finished}
use Rattle.latex2mathml_tex.proofs.parse.Parser.end_row.Goals as goal

pub close-requires-clause-can : goal.close-requires-clause-can
close-requires-clause-can c =
    let whole = c.in_ok-row.ensures in
    finished_can c.args.self.now c.finish.new.builder c.args.row c.in_ok-row.row whole.below whole.count c.args.ending c.requires.can

pub returns-clause-holds : goal.returns-clause-holds
returns-clause-holds c = λ s g.
    let whole = c.in_ok-row.ensures in
    c.close.ensures.holds s (row_finished s c.args.self.now c.finish.new.builder c.args.style c.args.row c.in_ok-row.row whole.row whole.below c.args.ending c.args.place c.args.unit g)
