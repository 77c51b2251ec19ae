use Rattle.latex2mathml_parser.proofs.Levels.{signed, unsigned}
use Rattle.latex2mathml_parser.proofs.parse.Parser.root.Goals as goal

pub returns-then-take_bracket-clause-holds : goal.returns-then-take_bracket-clause-holds
returns-then-take_bracket-clause-holds c = λ input k. c.open.ensures.holds input (signed c.if-take_bracket.ensures.list k)

pub returns-clause-holds : goal.returns-clause-holds
returns-clause-holds c = λ input k. c.open-2.ensures.holds input (unsigned c.if-take_bracket.ensures.list k)
