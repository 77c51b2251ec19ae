use Rattle.std.proofs.{Common.arith, Common.rules, lemmas.Fn.always_returns_same, lemmas.Grind.common_steps}
use Rattle.latex2mathml_tokens.specs.Escape.{is_escaped}
use Rattle.latex2mathml_tokens.proofs.Escapes.{content-plain}
use Rattle.latex2mathml_trees.proofs.text.write_content.Goals as goal

pub returns-in-None : goal.returns-in-None
returns-in-None g c = grind (arith, common_steps, content-plain _ (c.in-None.ensures.cases is_escaped (search (rules, always_returns_same))))
