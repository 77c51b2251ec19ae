use Rattle.std.proofs.Common.{refl}
use Rattle.std.specs.Char.{encode_utf8}
use Rattle.latex2mathml_tex_grammar.specs.Environments.{environments}
use Rattle.latex2mathml_tex_units.proofs.environments.environments.Goals as goal

pub returns : goal.returns
unfolding environments encode_utf8
returns c = refl
