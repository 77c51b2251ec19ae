use Rattle.latex2mathml_tex_grammar.proofs.Expanded.{are_expanded}
use Rattle.latex2mathml_tex_grammar.proofs.laws.expansions.Goals as goal

pub returns : goal.returns
returns c = are_expanded
