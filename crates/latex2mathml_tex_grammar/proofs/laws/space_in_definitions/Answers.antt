use Rattle.latex2mathml_tex_grammar.proofs.Expanded.{space_passed}
use Rattle.latex2mathml_tex_grammar.proofs.laws.space_in_definitions.Goals as goal

pub returns : goal.returns
returns c = space_passed
