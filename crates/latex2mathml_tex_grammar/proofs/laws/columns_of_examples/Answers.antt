use Rattle.std.proofs.Common.{refl}
use lib.Utf8.{encode}
use Rattle.latex2mathml_tex_grammar.specs.{Cutting.units_of, Cutting.units_within}
use Rattle.latex2mathml_tex_grammar.proofs.laws.columns_of_examples.Goals as goal

pub returns : goal.returns
unfolding units_of units_within encode
returns c = record {
  alone = refl;
  two_digits = refl;
  between = refl;
  none = refl;
  nothing = refl;
  several = refl;
  taken = refl;
  no_number = refl;
  three_digits = refl;
  number_without_braces = refl;
  columns_without_braces = refl;
  nested = refl;
  not_closed = refl;
}
