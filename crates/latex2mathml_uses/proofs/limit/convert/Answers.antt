use Rattle.std.proofs.Common.{ap, arith}
use Rattle.std.specs.Prelude.{is_ok}
use Rattle.latex2mathml_uses.proofs.limit.convert.Goals as goal

-- the reading ended, so all tokens of the text were taken
pub returns-then-steps-most-clause-limit : goal.returns-then-steps-most-clause-limit
returns-then-steps-most-clause-limit c =
    let (slices, cut, bound, all) = c.latex_to_mathml_counted-answer.ensures.tokens in
    let count = all (ap is_ok c.in_ok-markup.was) in
    (c.latex_to_mathml_counted-answer.result.1.tokens, (slices, cut, count), omega (arith, c.if-steps-most.true))

pub returns-clause-limit : goal.returns-clause-limit
returns-clause-limit c =
    let (slices, cut, bound, all) = c.latex_to_mathml_counted-answer.ensures.tokens in
    let count = all (ap is_ok c.in_ok-markup.was) in
    (c.latex_to_mathml_counted-answer.result.1.tokens, (slices, cut, count), omega (arith, c.if-steps-most.false))
