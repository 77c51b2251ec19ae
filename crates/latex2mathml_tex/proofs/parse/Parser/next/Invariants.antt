-- What holds of the parser at first leads to what holds after each atom.
use Rattle.std.proofs.Common.{◌≤◌}
use Rattle.latex2mathml_tex.specs.Frames.{Start}
use Rattle.latex2mathml_tex.specs.Steps.{Holds, Ready, to_do}
use Rattle.latex2mathml_tex.specs.declared.parse.State.TheVariants as state
use Rattle.latex2mathml_tex.proofs.parse.Parser.next.Given as goal

abbrev pub invariant-atoms : goal.invariant-atoms
invariant-atoms l = record {
  ready : Ready l.self state.Next;
  holds : (s : Start) → Holds s l.fn.self state.Next → Holds s l.self state.Next;
  no_more : to_do l.self ≤ to_do l.fn.self;
}

abbrev pub decreases-atoms : goal.decreases-atoms
decreases-atoms l = to_do l.self
