use Rattle.std.specs.Str.{chars}
use Rattle.latex2mathml_grammar.proofs.{OneList.has_one_list, Total.has_one_reading}
use Rattle.latex2mathml_grammar.proofs.laws.one_reading.Goals as goal

pub returns : goal.returns
returns c = record { one_list = has_one_list (chars c.args.text.now); read = λ ts tokens. has_one_reading ts }
