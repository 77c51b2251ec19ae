use Rattle.std.proofs.Common.{refl}
use Rattle.latex2mathml_tex_units.specs.Characters.{plain_bytes}
use Rattle.latex2mathml_tex_units.proofs.lexer.characters.plain_bytes.Goals as goal

pub returns : goal.returns
unfolding plain_bytes
returns c = refl
