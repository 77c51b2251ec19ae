use Rattle.std.proofs.Common.{ap, ◌∙◌}
use Rattle.latex2mathml_tex_grammar.specs.{Expanding.expansion, Expansion.most_units, Expansion.most_uses}
use Rattle.latex2mathml_tex_grammar.proofs.SameTables.{expansion_same}
use Rattle.latex2mathml_tex_units.specs.{Dues.due_of, MacroTables.table_of}
use Rattle.latex2mathml_tex_units.proofs.macros.expander.Expander.new.Goals as goal

pub returns : goal.returns
returns c = ap (expansion (table_of c.within.result) most_uses most_units (due_of c.args.due)) c.new.ensures ∙ expansion_same _ _ most_uses most_units (due_of c.args.due) _ c.within.ensures
