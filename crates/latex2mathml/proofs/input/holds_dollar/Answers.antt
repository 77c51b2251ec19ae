use Rattle.std.proofs.{Common.arith, lemmas.Str.Pattern.contains_char}
use Rattle.latex2mathml_grammar.specs.Dollars.{dollar}
use Rattle.latex2mathml.proofs.PlainTexts.{tells_dollars}
use Rattle.latex2mathml.proofs.input.holds_dollar.Goals as goal

pub returns : goal.returns
returns c = tells_dollars c.args.text.now c.contains.result (contains_char dollar c.args.text.now c.contains.result c.contains.ensures.cases (omega arith))
