use Rattle.latex2mathml.proofs.laws.one_outcome.Goals as goal

pub returns : goal.returns
returns c = c.answers.ensures.one_outcome c.args.document.now
