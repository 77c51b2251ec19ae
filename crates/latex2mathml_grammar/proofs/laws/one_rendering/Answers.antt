use Rattle.latex2mathml_grammar.proofs.Renderings.{has_one_rendering}
use Rattle.latex2mathml_grammar.proofs.laws.one_rendering.Goals as goal

pub returns : goal.returns
returns c = has_one_rendering c.args.text.now c.args.display
