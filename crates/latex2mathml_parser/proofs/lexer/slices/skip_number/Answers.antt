use Rattle.latex2mathml_grammar.proofs.Numbers.{digits_alone, digits_with_period}
use Rattle.latex2mathml_parser.proofs.lexer.slices.skip_number.Goals as goal

pub returns-in-Some : goal.returns-in-Some
returns-in-Some c = digits_with_period _ _ _ _ _ _ c.skip_run-behind.ensures.1 c.requires c.in-Some.ensures c.skip_run.ensures.1

pub returns-in-None : goal.returns-in-None
returns-in-None c = digits_alone _ _ _ c.skip_run-behind.ensures.1 c.requires c.in-None.ensures
