use Rattle.std.proofs.Common.{◌∙◌}
use Rattle.std.proofs.lemmas.Result.{IfOk-weaker}
use Rattle.std.specs.Prelude.{string_bytes}
use Rattle.latex2mathml_uses.proofs.BrokenLines.{alike, refused_so}
use Rattle.latex2mathml_uses.proofs.lines.convert.Goals as goal

pub returns-clause-rendering : goal.returns-clause-rendering
returns-clause-rendering c = λ breaks.
    let same = alike c.args.first.now c.args.second.now _ c.white_space.ensures (c.as_str.ensures.value ∙ c.in_ok-formula.ensures.ok) breaks in
    IfOk-weaker c.latex_to_mathml.result _ _ (λ markup. (same.renderings c.args.display (string_bytes markup)).1) c.latex_to_mathml.ensures.rendering

pub returns-clause-refusal : goal.returns-clause-refusal
returns-clause-refusal c = λ breaks.
    let same = alike c.args.first.now c.args.second.now _ c.white_space.ensures (c.as_str.ensures.value ∙ c.in_ok-formula.ensures.ok) breaks in
    refused_so c.latex_to_mathml.result (λ refusal. (same.refusals refusal).1) c.latex_to_mathml.ensures.refusal
