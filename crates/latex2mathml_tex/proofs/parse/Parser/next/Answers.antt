use Rattle.latex2mathml_tex.proofs.parse.Parser.next.Goals as goal

pub returns-then-not-add_unmarked-clause-holds : goal.returns-then-not-add_unmarked-clause-holds
returns-then-not-add_unmarked-clause-holds c = λ s h.
    let read = rw c.in-Symbol.is at c.in_ok-core.ensures in
    let kept = rw c.if-not-add_unmarked.true at (c.add_unmarked.ensures.holds s (read.holds s (c.atoms.invariant.holds s h))) in
    c.go_on.ensures.holds s (rw c.none.ensures kept)

pub returns-in-Command-clause-holds : goal.returns-in-Command-clause-holds
returns-in-Command-clause-holds c = λ s h.
    let found = rw c.in-Command.is at c.in_ok-core.ensures in
    c.begin_command.ensures.holds s (rw found.0 (c.atoms.invariant.holds s h))

pub returns-in-Other-clause-holds : goal.returns-in-Other-clause-holds
returns-in-Other-clause-holds c = λ s h.
    let same = rw c.in-Other.is at c.in_ok-core.ensures in
    c.begin_next.ensures.holds s (rw same (c.atoms.invariant.holds s h))
