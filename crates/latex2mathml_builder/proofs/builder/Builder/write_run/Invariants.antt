use Rattle.std.proofs.Common.{◌≡◌, ◌+◌, ◌≤◌, ◌++◌, length, string_bytes}
use Rattle.latex2mathml_builder.specs.Due.{AreIn, due, load, run_print, run_weight}
use Rattle.latex2mathml_builder.proofs.builder.Builder.write_run.Given as goal

abbrev pub invariant-elements : goal.invariant-elements
invariant-elements l = record {
  one : l.left.end ≤ length l.fn.self.settled;
  inside : AreIn l.fn.self l.works.items;
  print : string_bytes l.out ++ (run_print l.fn.self l.left ++ due l.fn.self l.works.items) ≡ string_bytes l.fn.out ++ (run_print l.fn.self l.fn.run ++ due l.fn.self l.fn.works.items);
  weight : load l.fn.self l.works.items + run_weight l.fn.self l.left ≤ load l.fn.self l.fn.works.items + run_weight l.fn.self l.fn.run;
}

abbrev pub decreases-elements : goal.decreases-elements
decreases-elements l = load l.fn.self l.works.items + run_weight l.fn.self l.left
