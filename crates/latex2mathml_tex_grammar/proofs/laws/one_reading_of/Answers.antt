use Rattle.latex2mathml_tex_grammar.proofs.Total.{has_one_outcome}
use Rattle.latex2mathml_tex_grammar.proofs.laws.one_reading_of.Goals as goal

pub returns : goal.returns
returns c = has_one_outcome
