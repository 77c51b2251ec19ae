use lib.Utf8.{encode}
use Rattle.latex2mathml_tex_grammar.proofs.OneList.{has_units}
use Rattle.latex2mathml_tex_grammar.specs.Cutting.{units_of, units_within}
use Rattle.latex2mathml_tex_grammar.proofs.laws.units_of_examples.Goals as goal

pub returns : goal.returns
unfolding units_of units_within encode
returns c = record {
  nothing = has_units 0 _;
  letters = has_units 0 _;
  symbol = has_units 0 _;
  line_end = has_units 0 _;
  comments = has_units 0 _;
  lone = has_units 0 _;
  forbidden = has_units 0 _;
}
