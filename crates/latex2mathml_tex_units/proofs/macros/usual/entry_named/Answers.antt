use Rattle.std.proofs.Common.{◌∙◌, ap}
use Rattle.latex2mathml_tex_grammar.specs.UsualMacros.{entry_macro}
use Rattle.latex2mathml_tex_units.proofs.UsualLookups.{usual_few, usual_ordered}
use Rattle.latex2mathml_tex_units.proofs.macros.usual.entry_named.Goals as goal

pub find-requires-clause-ordered : goal.find-requires-clause-ordered
find-requires-clause-ordered c = usual_ordered _ c.entries.ensures

pub find-requires-clause-few : goal.find-requires-clause-few
find-requires-clause-few c = usual_few _ c.entries.ensures

pub returns : goal.returns
returns c = c.find.ensures ∙ ap (λ es. entry_macro es c.args.name.now) c.entries.ensures
