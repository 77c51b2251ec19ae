use Rattle.std.proofs.Common.{map}
use Rattle.latex2mathml_tokens.specs.Tok.{tok}
use Rattle.latex2mathml_grammar.proofs.Total.{has_one_reading}
use Rattle.latex2mathml_grammar.proofs.laws.one_reading_of.Goals as goal

pub returns : goal.returns
returns c = has_one_reading (map tok c.args.tokens.now)
