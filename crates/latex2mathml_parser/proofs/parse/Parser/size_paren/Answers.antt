use Rattle.latex2mathml_parser.proofs.{Beginning.not_sized, Levels.taken, Stacks.core_refused}
use Rattle.latex2mathml_parser.proofs.parse.Parser.size_paren.Goals as goal

pub returns-in-Paren-clause-holds : goal.returns-in-Paren-clause-holds
returns-in-Paren-clause-holds c = λ input k.
    c.put.ensures.holds input (rw c.in-Paren.is at (taken c.take.ensures.token c.take.ensures.list k))

pub returns-in_ok-got-in_default-clause-holds : goal.returns-in_ok-got-in_default-clause-holds
returns-in_ok-got-in_default-clause-holds c = λ input k.
    c.refuse.ensures.holds input
    (rw c.in_ok-got-in_default.ensures.token
    (core_refused 0 input c.args.self.now (rw (not_sized _ c.take.result c.in_default.not-Paren) at (taken c.take.ensures.token c.take.ensures.list k))))
