-- The state leads to what the first state leads to.
use Rattle.std.proofs.Common.{List}
use Rattle.latex2mathml_parser.specs.Steps.{Counted, HasTrees, Holds, trees_of_state, work}
use Rattle.latex2mathml_tokens.specs.Tok.{Tok}
use Rattle.latex2mathml_parser.proofs.parse.Parser.finish.Given as goal

abbrev pub invariant-steps : goal.invariant-steps
invariant-steps l = record {
  trees : HasTrees (trees_of_state l.state) l.self;
  holds : (input : List Tok) → Holds input l.fn.self l.fn.begun → Holds input l.self l.state;
  counted : Counted 0 l.fn.self l.self;
}

abbrev pub decreases-steps : goal.decreases-steps
decreases-steps l = work l.self l.state
