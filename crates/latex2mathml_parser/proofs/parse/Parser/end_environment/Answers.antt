use Rattle.std.proofs.Common.{◌+◌, add-one}
use Rattle.latex2mathml_parser.proofs.{Levels.after_name, Stacks.core_refused}
use Rattle.latex2mathml_parser.proofs.parse.Parser.end_environment.Goals as goal

pub returns-then-branch-clause-holds : goal.returns-then-branch-clause-holds
returns-then-branch-clause-holds c = λ input k.
    let made = rw c.if-branch.true at c.in_ok-environment.ensures in
    rw made.2 (rw made.1 at (after_name c.skip_name.ensures.name (rw (add-one c.args.count) at k)))

pub returns-clause-holds : goal.returns-clause-holds
returns-clause-holds c = λ input k.
    let none = rw c.if-branch.false at c.in_ok-environment.ensures in
    c.refuse.ensures.holds input
    (rw (c.in_ok-name.ensures.ok, c.name.ensures, none.1)
    (core_refused (c.args.count + 1) input c.args.self.now (rw none.0 at (after_name c.skip_name.ensures.name k))))
