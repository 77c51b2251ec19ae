use Rattle.std.proofs.Common.{length, string_bytes}
use Rattle.latex2mathml_parser.proofs.Names.{IsTaking}
use Rattle.latex2mathml_parser.proofs.lexer.Lexer.name.Given as goal

abbrev pub invariant-loop-c : goal.invariant-loop-c
invariant-loop-c l = IsTaking (string_bytes l.name) l.fn.self l.self

abbrev pub decreases-loop-c : goal.decreases-loop-c
decreases-loop-c l = length l.self.list
