-- The nodes so far are read and printed.
use Rattle.std.proofs.Common.{[], ◌≡◌, length}
use Rattle.std.specs.Prelude.{string_bytes}
use Rattle.latex2mathml_parser.specs.Steps.{Counted}
use Rattle.latex2mathml_parser.proofs.Appending.{Appends}
use Rattle.latex2mathml_parser.proofs.formula.append_math.Given as goal

abbrev pub invariant-nodes : goal.invariant-nodes
invariant-nodes l = record {
  closed : l.parser.frames.stack.items ≡ [];
  nodes : Appends l.initial.parser.lexer.list l.parser.lexer.list (string_bytes l.initial.markup) (string_bytes l.markup);
  counted : Counted 0 l.initial.parser l.parser;
}

abbrev pub decreases-nodes : goal.decreases-nodes
decreases-nodes l = length l.parser.lexer.list
