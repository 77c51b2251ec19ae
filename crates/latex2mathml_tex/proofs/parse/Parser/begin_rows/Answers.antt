use Rattle.std.proofs.Common.{sym, ◌∙◌}
use Rattle.latex2mathml_tex.proofs.TableRules.{diagram_begins, rows_begin}
use Rattle.latex2mathml_tex.proofs.parse.Parser.begin_rows.Goals as goal

pub returns-then-are_in_diagram-clause-holds : goal.returns-then-are_in_diagram-clause-holds
returns-then-are_in_diagram-clause-holds c = λ s g.
    c.begin_first_cell.ensures.holds s (diagram_begins s c.args.self.now c.args.environment c.args.columns c.args.place c.args.context g (sym c.are_in_diagram.ensures ∙ c.if-are_in_diagram.true))

pub returns-clause-holds : goal.returns-clause-holds
returns-clause-holds c = λ s g.
    c.begin_first_cell-2.ensures.holds s (rows_begin s c.args.self.now c.args.environment c.args.columns c.args.place c.args.context g (sym c.are_in_diagram.ensures ∙ c.if-are_in_diagram.false))
