use Rattle.latex2mathml_tex.proofs.convert.Converter.append_with_source.Goals as goal

pub returns-then-branch-clause-answer : goal.returns-then-branch-clause-answer
returns-then-branch-clause-answer c = λ table same. rw c.if-branch.true at c.in_ok-append_math.ensures.read table same
