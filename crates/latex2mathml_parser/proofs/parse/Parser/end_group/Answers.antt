use Rattle.latex2mathml_parser.proofs.parse.Parser.end_group.Goals as goal

pub returns-in_ok-group-in-Degree-clause-holds : goal.returns-in_ok-group-in-Degree-clause-holds
returns-in_ok-group-in-Degree-clause-holds c = λ input k.
    c.put_back.ensures.holds input (rw c.in_ok-group-in-Degree.ensures (rw c.in-Degree.is at k))
