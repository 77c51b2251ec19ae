use Rattle.latex2mathml_parser.proofs.{Levels.taken, Stacks.core_refused}
use Rattle.latex2mathml_parser.proofs.parse.Parser.open_fence.Goals as goal

pub returns-clause-holds : goal.returns-clause-holds
returns-clause-holds c = λ input k.
    c.open.ensures.holds input (rw c.in-Some.ensures at (taken c.take-got.ensures.token c.take-got.ensures.list k))

pub returns-in_default-clause-holds : goal.returns-in_default-clause-holds
returns-in_default-clause-holds c = λ input k.
    c.refuse_fence.ensures.holds input (core_refused 0 input c.args.self.now (rw c.in_default.ensures at (taken c.take-got.ensures.token c.take-got.ensures.list k)))
