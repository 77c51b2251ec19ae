use Rattle.std.proofs.Common.{subst}
use Rattle.latex2mathml_c.specs.{Call.IsLength, Texts.IsText, declared.Job.TheVariants.Formula}
use Rattle.latex2mathml_c.proofs.{Calls.needed_length, Texts.one_text}
use Rattle.latex2mathml_c.proofs.latex2mathml_formula.Goals as goal

pub returns-clause-length : goal.returns-clause-length
returns-clause-length c some =
    subst (λ d. IsLength (IsText (Formula d) c.args.latex.now) c.call.new.needed) c.display.ensures (needed_length (IsText (Formula c.display.result) c.args.latex.now) (one_text c.renderings.ensures c.answers.ensures (Formula c.display.result) c.args.latex.now) c.call.result c.code.result (record { old = c.args.out.now; new = c.call.new.out; needed = c.call.new.needed }) c.code.ensures c.call.ensures.outcome some)
