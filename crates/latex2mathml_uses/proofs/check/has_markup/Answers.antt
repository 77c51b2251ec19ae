use Rattle.std.proofs.Common.{refl}
use Rattle.latex2mathml.specs.Formulas.{refusal_of}
use Rattle.latex2mathml_uses.proofs.CheckedFormulas.{no_markup}
use Rattle.latex2mathml_uses.proofs.check.has_markup.Goals as goal

pub returns-in-Ok : goal.returns-in-Ok
returns-in-Ok c = (λ e. (_, c.in-Ok.ensures.rendering), λ has. refl)

pub returns : goal.returns
returns c =
    no_markup c.args.formula.now c.args.display c.one_rendering.ensures (refusal_of c.in-Err.error) (λ e. let t = c.if-eq.ensures.contents.1 e in cc) c.in-Err.ensures.refusal
