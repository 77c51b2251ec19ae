use Rattle.std.proofs.Common.{ap}
use Rattle.latex2mathml_parser.specs.Unread.{token_list}
use Rattle.latex2mathml_parser.proofs.{Sights.seen, Starts.none_left}
use Rattle.latex2mathml_parser.proofs.lexer.Lexer.find_first_char.Goals as goal

pub returns-in_err-c-clause-sight : goal.returns-in_err-c-clause-sight
returns-in_err-c-clause-sight c = rw (← c.self.view_is, c.from_residual.ensures) (ap token_list (none_left _ _ _ _ c.find_start-start.ensures.start (rw c.in_err-c.was at c.find_start-start.ensures.first)))

pub returns-clause-sight : goal.returns-clause-sight
returns-clause-sight c = rw (← c.self.view_is) (seen _ _ _ _ _ _ c.find_start-start.ensures.start (rw c.in_ok-c.was at c.find_start-start.ensures.first))
