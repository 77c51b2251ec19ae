use Rattle.std.proofs.Common.{ℕ, List, length}
use Rattle.latex2mathml_parser.proofs.Names.{IsTaking}
use Rattle.latex2mathml_parser.proofs.lexer.Lexer.skip_name.Given as goal

abbrev pub invariant-loop : goal.invariant-loop
invariant-loop l = (bytes : List ℕ) × IsTaking bytes l.fn.self l.self

abbrev pub decreases-loop : goal.decreases-loop
decreases-loop l = length l.self.list
