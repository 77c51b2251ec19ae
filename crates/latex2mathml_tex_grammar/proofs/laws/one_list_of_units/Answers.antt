use Rattle.latex2mathml_tex_grammar.proofs.OneList.{has_one_list}
use Rattle.latex2mathml_tex_grammar.proofs.laws.one_list_of_units.Goals as goal

pub returns : goal.returns
returns c = has_one_list _
