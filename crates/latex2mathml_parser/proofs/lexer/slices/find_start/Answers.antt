use Rattle.latex2mathml_parser.proofs.Starts.{starts_behind}
use Rattle.latex2mathml_parser.proofs.lexer.slices.find_start.Goals as goal

pub returns-then-is_space-clause-start : goal.returns-then-is_space-clause-start
returns-then-is_space-clause-start c = starts_behind _ _ c.in-Some.c _ _ c.in-Some.ensures (cc) c.skip_space-behind.ensures
