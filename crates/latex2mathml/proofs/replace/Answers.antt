use Rattle.latex2mathml.proofs.Repeating.{free_result, same_result}
use Rattle.latex2mathml.proofs.replace.Goals as goal

pub returns-clause-dollar_free : goal.returns-clause-dollar_free
returns-clause-dollar_free c = free_result c.renderings.ensures c.args.input.now c.convert.result c.convert.ensures.answer

pub returns-clause-unchanged : goal.returns-clause-unchanged
returns-clause-unchanged c = same_result c.args.input.now c.convert.result c.convert.ensures.answer c.convert.ensures.refusal
