use Rattle.std.proofs.Common.{refl}
use Rattle.latex2mathml_c.specs.{Texts.IsText, declared.Status.TheVariants.NotUtf8}
use Rattle.latex2mathml_c.proofs.{Calls.put_outcome, Texts.are_texts}
use Rattle.latex2mathml_c.proofs.call.Goals as goal

-- the bytes are not text, and result in the sentence that says so
pub returns-in_default : goal.returns-in_default
returns-in_default c =
    record { outcome = put_outcome (IsText c.args.job c.args.input.now) (are_texts c.args.job c.args.input.now) NotUtf8 c.put.result _ (record { old = c.args.out.now; new = c.put.new.out; needed = c.put.new.needed }) (c.in_default.ensures.cases.0, refl) c.put.ensures }
