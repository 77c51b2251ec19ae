use Rattle.latex2mathml_c.specs.{Texts.IsText, declared.Job.TheVariants.Document}
use Rattle.latex2mathml_c.proofs.{Calls.needed_length, Texts.one_text}
use Rattle.latex2mathml_c.proofs.latex2mathml_document.Goals as goal

pub returns-clause-length : goal.returns-clause-length
returns-clause-length c =
    needed_length (IsText Document c.args.document.now) (one_text c.renderings.ensures c.answers.ensures Document c.args.document.now) c.call.result c.code.result (record { old = c.args.out.now; new = c.call.new.out; needed = c.call.new.needed }) c.code.ensures c.call.ensures.outcome
