use Rattle.latex2mathml_tex_grammar.proofs.Balanced.{are_between}
use Rattle.latex2mathml_tex_grammar.proofs.laws.groups.Goals as goal

pub returns : goal.returns
returns c = are_between
