use Rattle.latex2mathml_tex_grammar.proofs.Readings.{has_one_reading}
use Rattle.latex2mathml_tex_grammar.proofs.laws.one_reading.Goals as goal

pub returns : goal.returns
returns c = has_one_reading
