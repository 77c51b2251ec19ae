use Rattle.latex2mathml_tex_grammar.proofs.Expanded.{have_one}
use Rattle.latex2mathml_tex_grammar.proofs.laws.one_expansion.Goals as goal

pub returns : goal.returns
returns c = have_one
