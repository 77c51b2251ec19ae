use Rattle.latex2mathml_tex_grammar.proofs.DefinitionsOnce.{have_one_table_or_refusal}
use Rattle.latex2mathml_tex_grammar.proofs.laws.one_table_of_text.Goals as goal

pub returns : goal.returns
returns c = have_one_table_or_refusal
