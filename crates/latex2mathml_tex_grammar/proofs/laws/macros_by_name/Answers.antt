use Rattle.latex2mathml_tex_grammar.proofs.Readings.{are_macros_their_names}
use Rattle.latex2mathml_tex_grammar.proofs.laws.macros_by_name.Goals as goal

pub returns : goal.returns
returns c = are_macros_their_names
