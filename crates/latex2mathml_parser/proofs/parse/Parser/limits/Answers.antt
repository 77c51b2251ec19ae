use Rattle.latex2mathml_parser.proofs.Levels.{signed, unsigned}
use Rattle.latex2mathml_parser.proofs.parse.Parser.limits.Goals as goal

pub returns-then-take_if-clause-holds : goal.returns-then-take_if-clause-holds
returns-then-take_if-clause-holds c = λ input k. c.open.ensures.holds input (signed c.if-take_if.ensures.list k)

pub returns-then-take_if-2-clause-holds : goal.returns-then-take_if-2-clause-holds
returns-then-take_if-2-clause-holds c = λ input k.
    c.open-then-take_if-2.ensures.holds input (signed c.if-take_if-2.ensures.list (unsigned c.if-take_if.ensures.list k))

pub returns-clause-holds : goal.returns-clause-holds
returns-clause-holds c = λ input k.
    c.put.ensures.holds input (unsigned c.if-take_if-2.ensures.list (unsigned c.if-take_if.ensures.list k))
