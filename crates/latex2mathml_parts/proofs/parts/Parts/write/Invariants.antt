use Rattle.std.proofs.Common.{◌≡◌, ◌+◌, ◌++◌, string_bytes}
use Rattle.latex2mathml_trees.specs.Print.{print}
use Rattle.latex2mathml_parts.specs.{Forests.trees_in, Parts.top}
use Rattle.latex2mathml_parts.specs.Works.{AreIn, IsNext, due, load, next_print, next_weight}
use Rattle.latex2mathml_parts.proofs.parts.Parts.write.Given as goal

abbrev pub invariant-works : goal.invariant-works
invariant-works l = record {
  inside : AreIn l.fn.self l.list.items;
  next : IsNext l.fn.self l.next;
  print : string_bytes l.out ++ (next_print l.fn.self l.next ++ due l.fn.self l.list.items) ≡ string_bytes l.fn.out ++ print (top (trees_in l.fn.self));
}

abbrev pub decreases-works : goal.decreases-works
decreases-works l = load l.fn.self l.list.items + next_weight l.fn.self l.next
