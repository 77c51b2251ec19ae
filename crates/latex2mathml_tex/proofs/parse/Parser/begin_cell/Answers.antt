use Rattle.latex2mathml_tex.proofs.Tabled.{cell_begins}
use Rattle.latex2mathml_tex.proofs.parse.Parser.begin_cell.Goals as goal

pub returns-clause-holds : goal.returns-clause-holds
returns-clause-holds c = λ s g.
    c.open.ensures.holds s g.style (cell_begins s c.args.self.now c.args.table c.args.place c.innermost.result c.context-around.result c.styled-context.result c.style.result c.begun_cell.result c.requires.can c.context-around.ensures c.innermost.ensures c.styled-context.ensures c.style.ensures c.begun_cell.ensures.row c.begun_cell.ensures.before g)
