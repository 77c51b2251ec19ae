use Rattle.std.proofs.Common.{refl}
use Rattle.latex2mathml_parser.proofs.{Levels.taken, Stacks.core_refused}
use Rattle.latex2mathml_parser.proofs.parse.Parser.deliver.Goals as goal

pub returns-in_ok-slash-in-Slashed-clause-holds : goal.returns-in_ok-slash-in-Slashed-clause-holds
returns-in_ok-slash-in-Slashed-clause-holds c = λ input k.
    rw c.in_ok-slash-in-Slashed.ensures (taken refl c.skip.ensures.list (rw c.in-Slashed.is at k))

pub returns-else-stretch-clause-holds : goal.returns-else-stretch-clause-holds
returns-else-stretch-clause-holds c = λ input k.
    c.refuse_fence.ensures.holds input (core_refused 1 input c.args.self.now (rw c.if-stretch.ensures.0 at (rw c.in-Stretch.is at k)))
