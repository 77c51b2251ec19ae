use Rattle.std.proofs.Common.{[]}
use Rattle.latex2mathml_tex_grammar.specs.UsualMacros.{usual_macros}
use Rattle.latex2mathml_tex_units.proofs.DefinedTables.{usual_alone, usual_defined}
use Rattle.latex2mathml_tex_units.proofs.macros.table.Macros.new.Goals as goal

pub returns-clause-defined : goal.returns-clause-defined
returns-clause-defined c = ([], usual_macros, usual_defined, usual_alone (record { defined = c.new.result }) c.new.ensures.empty)
