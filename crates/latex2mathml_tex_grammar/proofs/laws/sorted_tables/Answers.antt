use Rattle.latex2mathml_tex_grammar.proofs.Tables.{ascending-command_entries, ascending-environments, ascending-sign_entries}
use Rattle.latex2mathml_tex_grammar.proofs.laws.sorted_tables.Goals as goal

pub returns : goal.returns
returns c = record { commands = ascending-command_entries; signs = ascending-sign_entries; environments = ascending-environments }
