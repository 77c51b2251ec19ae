use Rattle.latex2mathml_uses.proofs.CheckedFormulas.{not_refused, only_markup}
use Rattle.latex2mathml_uses.proofs.check.markup.Goals as goal

pub returns-clause-markup : goal.returns-clause-markup
returns-clause-markup c = only_markup c.args.formula.now c.args.display c.one_rendering.ensures c.latex_to_mathml.result c.latex_to_mathml.ensures.rendering

pub returns-clause-never_refused : goal.returns-clause-never_refused
returns-clause-never_refused c = not_refused c.args.formula.now c.args.display c.one_rendering.ensures c.requires c.latex_to_mathml.result c.latex_to_mathml.ensures.refusal
