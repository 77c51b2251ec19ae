use Rattle.latex2mathml_tex_grammar.proofs.SpacingExamples.{are_spacing_examples}
use Rattle.latex2mathml_tex_grammar.proofs.laws.spacing_of_examples.Goals as goal

pub returns : goal.returns
returns c = are_spacing_examples
