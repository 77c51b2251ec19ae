use Rattle.latex2mathml_tex.proofs.Rows.{row_added, row_added_step}
use Rattle.latex2mathml_tex.proofs.parse.Parser.put.Goals as goal

pub returns-then-add-clause-holds : goal.returns-then-add-clause-holds
returns-then-add-clause-holds c = λ s g.
    row_added c.args.self.now c.add.new.self c.args.core (c.add.ensures.added search) c.requires s g

pub returns-then-add-clause-step : goal.returns-then-add-clause-step
returns-then-add-clause-step c =
    row_added_step c.args.self.now c.add.new.self c.args.core (c.add.ensures.added search) c.requires
