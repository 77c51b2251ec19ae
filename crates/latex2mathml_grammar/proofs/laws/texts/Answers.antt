use Rattle.latex2mathml_grammar.proofs.{OneList.has_one_list, Total.has_one_reading}
use Rattle.latex2mathml_grammar.proofs.WhiteSpace.{has_places, space_changes_nothing}
use Rattle.latex2mathml_grammar.proofs.laws.texts.Goals as goal

pub returns : goal.returns
returns c = record {
  one_reading = λ text. record { one_list = has_one_list text; read = λ ts tokens. has_one_reading ts };
  one_reading_of = has_one_reading;
  places = has_places;
  white_space = space_changes_nothing;
}
