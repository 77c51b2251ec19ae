use Rattle.latex2mathml_parser.proofs.Stepping.{counted_on}
use Rattle.latex2mathml_parser.proofs.parse.Parser.finish.Goals as goal

pub steps-preserved : goal.steps-preserved
steps-preserved c = record {
  trees = c.in_ok-state-in_default.ensures.step.follows.trees;
  holds = λ input k. c.in_ok-state-in_default.ensures.holds input (c.steps.invariant.holds input k);
  counted = counted_on _ _ _ c.steps.invariant.counted c.in_ok-state-in_default.ensures.step.counted;
}

pub returns-in-End-clause-node : goal.returns-in-End-clause-node
returns-in-End-clause-node c = λ input k. rw c.in-End.is at (c.steps.invariant.holds input k)

pub returns-in-Refused-clause-node : goal.returns-in-Refused-clause-node
returns-in-Refused-clause-node c = λ input k. rw c.in-Refused.is at (c.steps.invariant.holds input k)
