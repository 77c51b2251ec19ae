use Rattle.latex2mathml_tex_units.proofs.DefinedTables.{none_defined}
use Rattle.latex2mathml_tex_units.proofs.macros.table.Macros.is_empty.Goals as goal

pub returns : goal.returns
returns c = λ empty name. none_defined c.args.self.now name (c.is_empty.ensures.0 empty)
