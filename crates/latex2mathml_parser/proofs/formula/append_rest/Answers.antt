use Rattle.latex2mathml_parser.proofs.formula.append_rest.Goals as goal

pub returns-clause-node : goal.returns-clause-node
returns-clause-node c = λ input k.
    let e = rw c.if-not-is_read.false at (c.in_ok-is_read.ensures.node input k) in
    (e.0, (_, e.1, c.in_ok-write.ensures))

pub returns-then-not-is_read-clause-node : goal.returns-then-not-is_read-clause-node
returns-then-not-is_read-clause-node c = λ input k. rw c.if-not-is_read.true at (c.in_ok-is_read.ensures.node input k)
