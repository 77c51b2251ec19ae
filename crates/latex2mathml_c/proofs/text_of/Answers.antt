use Rattle.latex2mathml.specs.Formulas.{refusal_of}
use Rattle.latex2mathml_c.proofs.Texts.{refusal_told}
use Rattle.latex2mathml_c.proofs.text_of.Goals as goal

-- an error other than out of memory has the text of the refusal that it reports
pub returns-in_ok-reason-in-Err : goal.returns-in_ok-reason-in-Err
returns-in_ok-reason-in-Err c =
    refusal_told c.args.job c.args.input.now (refusal_of c.in-Err.error) _ c.utf8.input c.in-Err.ensures.refusal (λ e. let t = c.if-eq.ensures.contents.1 e in cc) c.in_ok-reason-in-Err.ensures.ok
