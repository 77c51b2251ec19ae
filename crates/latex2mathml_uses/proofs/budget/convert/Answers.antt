use Rattle.latex2mathml_uses.proofs.Bounds.{within}
use Rattle.latex2mathml_uses.proofs.budget.convert.Goals as goal

pub returns-clause-steps : goal.returns-clause-steps
returns-clause-steps c =
    let done = c.latex_to_mathml_counted.ensures in
    within c.args.formula.now c.args.most c.latex_to_mathml_counted.result.1 c.if-formula-most.false done.length done.comparisons done.frames
