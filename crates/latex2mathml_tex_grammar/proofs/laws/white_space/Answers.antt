use Rattle.latex2mathml_tex_grammar.proofs.SpaceNothing.{is_space_nothing}
use Rattle.latex2mathml_tex_grammar.proofs.laws.white_space.Goals as goal

pub returns : goal.returns
returns c = is_space_nothing
