use Rattle.latex2mathml_tex_grammar.proofs.DefinitionTexts.{have_one_table}
use Rattle.latex2mathml_tex_grammar.proofs.laws.one_table.Goals as goal

pub returns : goal.returns
returns c = have_one_table
