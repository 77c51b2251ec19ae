use Rattle.latex2mathml_parser.proofs.Levels.{signed, unsigned}
use Rattle.latex2mathml_parser.proofs.parse.Parser.limit.Goals as goal

pub returns-then-take_if-clause-holds : goal.returns-then-take_if-clause-holds
returns-then-take_if-clause-holds c = λ input k. c.open.ensures.holds input (signed c.if-take_if.ensures.list k)

pub returns-clause-holds : goal.returns-clause-holds
returns-clause-holds c = λ input k. c.put.ensures.holds input (unsigned c.if-take_if.ensures.list k)
