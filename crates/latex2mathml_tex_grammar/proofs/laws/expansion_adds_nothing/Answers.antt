use Rattle.latex2mathml_tex_grammar.proofs.Adding.{adds_nothing}
use Rattle.latex2mathml_tex_grammar.proofs.laws.expansion_adds_nothing.Goals as goal

pub returns : goal.returns
returns c = adds_nothing
