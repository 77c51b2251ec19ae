use Rattle.std.specs.Str.{chars}
use Rattle.latex2mathml_grammar.proofs.OneList.{has_one_list}
use Rattle.latex2mathml_grammar.proofs.laws.one_token_list.Goals as goal

pub returns : goal.returns
returns c = has_one_list (chars c.args.text.now)
