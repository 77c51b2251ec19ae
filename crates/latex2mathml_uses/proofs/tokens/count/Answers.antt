use Rattle.std.proofs.Common.{ap, rules}
use Rattle.std.specs.Prelude.{is_ok}
use Rattle.latex2mathml.specs.Formulas.{IfRefused, IsFormulaRefusal}
use Rattle.latex2mathml_uses.proofs.{BrokenLines.refused_so, CountedTokens.read_each, CountedTokens.refused_each}
use Rattle.latex2mathml_uses.proofs.tokens.count.Goals as goal

pub returns-in_err-answer-clause-refused : goal.returns-in_err-answer-clause-refused
returns-in_err-answer-clause-refused c =
    let refused : IfRefused c.from_residual.result (IsFormulaRefusal c.args.formula.now) = search rules in
    refused_so c.from_residual.result (refused_each c.args.formula.now c.one_reading.ensures) refused

-- the reading ended, so all tokens of the text were taken
pub returns-clause-read : goal.returns-clause-read
returns-clause-read c =
    let counted = c.latex_to_mathml_counted-answer in
    let (slices, cut, bound, all) = counted.ensures.tokens in
    let count = all (ap is_ok c.in_ok-answer.was) in
    read_each c.args.formula.now c.one_reading.ensures _ _ counted.result.1.tokens (rw c.in_ok-answer.was at counted.ensures.rendering) (slices, cut, count)
