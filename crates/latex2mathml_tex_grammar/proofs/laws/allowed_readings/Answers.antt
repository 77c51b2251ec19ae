use Rattle.latex2mathml_tex_grammar.proofs.AllowedReadings.{readings_are_allowed}
use Rattle.latex2mathml_tex_grammar.proofs.laws.allowed_readings.Goals as goal

pub returns : goal.returns
returns c = readings_are_allowed
