use Rattle.std.proofs.Common.{◌≡◌, ◌+◌, ◌≤◌, ◌++◌, length, string_bytes}
use Rattle.latex2mathml_elements.specs.Print.{print}
use Rattle.latex2mathml_builder.specs.Built.{element_in}
use Rattle.latex2mathml_builder.specs.Due.{AreIn, due, load, run_print, run_weight}
use Rattle.latex2mathml_builder.proofs.builder.Builder.write_outer.Given as goal

abbrev pub invariant-works : goal.invariant-works
invariant-works l = record {
  one : l.next.end ≤ length l.fn.self.settled;
  inside : AreIn l.fn.self l.works.items;
  print : string_bytes l.out ++ (run_print l.fn.self l.next ++ due l.fn.self l.works.items) ≡ string_bytes l.fn.out ++ print (element_in l.fn.self l.fn.part);
}

abbrev pub decreases-works : goal.decreases-works
decreases-works l = load l.fn.self l.works.items + run_weight l.fn.self l.next
