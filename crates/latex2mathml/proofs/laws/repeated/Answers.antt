use Rattle.latex2mathml.proofs.laws.repeated.Goals as goal

pub returns : goal.returns
returns c = c.answers.ensures.repeated c.args.document.now
