use Rattle.latex2mathml.proofs.laws.joined.Goals as goal

pub returns : goal.returns
returns c = c.answers.ensures.joined c.args.first.now c.args.second.now
