use Rattle.latex2mathml_tex_units.specs.Errors.{refusal_of}
use Rattle.latex2mathml_tex_program.specs.{Replies.IsNoMarkup, Runs.IsNotMade}
use Rattle.latex2mathml_tex_program.proofs.Refusals.{refusals_weaker}
use Rattle.latex2mathml_tex_program.proofs.serving.product.Goals as goal

pub returns-clause-made : goal.returns-clause-made
returns-clause-made c = λ table same. rw c.if-request.false (c.line.ensures.line table same)

pub returns-clause-refusal : goal.returns-clause-refusal
returns-clause-refusal c = λ table same.
    refusals_weaker refusal_of (IsNoMarkup table c.args.text.now c.args.request.format) (IsNotMade table c.args.request c.args.text.now) c.line.result
    (λ r is. (c.if-request.false, is)) (c.line.ensures.refusal table same)
