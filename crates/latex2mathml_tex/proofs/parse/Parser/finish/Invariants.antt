-- The state leads to what the first state leads to.
use Rattle.std.proofs.Common.{◌+◌}
use Rattle.latex2mathml_tex.specs.Steps.{Holds, Ready, start_of, state_weight, to_do}
use Rattle.latex2mathml_tex.proofs.parse.Parser.finish.Given as goal

abbrev pub invariant-steps : goal.invariant-steps
invariant-steps l = record {
  ready : Ready l.self l.state;
  holds : Holds (start_of l.fn.form l.fn.self) l.self l.state;
}

abbrev pub decreases-steps : goal.decreases-steps
decreases-steps l = to_do l.self + state_weight l.state
