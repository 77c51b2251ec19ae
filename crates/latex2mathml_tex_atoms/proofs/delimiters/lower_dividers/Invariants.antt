-- The first `depth` elements are changed.
use Rattle.std.proofs.Common.{◌≡◌}
use Rattle.latex2mathml_builder.specs.Built.{elements_in}
use Rattle.latex2mathml_tex_grammar.specs.Makes
use Rattle.latex2mathml_tex_atoms.specs.Shapes.{mapped_first}
use Rattle.latex2mathml_tex_atoms.proofs.delimiters.lower_dividers.Given as goal

abbrev pub invariant-elements : goal.invariant-elements
invariant-elements l = elements_in l.builder ≡ mapped_first Makes.lowered_divider l.depth (elements_in l.initial.builder)
