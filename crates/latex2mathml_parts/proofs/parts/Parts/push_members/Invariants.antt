use Rattle.std.proofs.Common.{◌≡◌, ◌+◌, ◌++◌, ◌≤◌, length, reverse, sum_by, take}
use Rattle.latex2mathml_parts.specs.{Groups.members_in, Shapes.print_weight, Forests.trees_at, Works.AreIn, Works.due, Works.load}
use Rattle.latex2mathml_parts.proofs.parts.Parts.push_members.Given as goal

abbrev pub invariant-members : goal.invariant-members
invariant-members l = record {
  inside : AreIn l.fn.self l.works.items;
  within : l.place ≤ length l.fn.self.list;
  all : l.left ≤ length (trees_at l.fn.self l.place);
  print : members_in l.fn.group l.fn.style (reverse (take l.left (trees_at l.fn.self l.place))) ++ due l.fn.self l.works.items ≡ members_in l.fn.group l.fn.style (reverse (take l.fn.count (trees_at l.fn.self l.fn.end))) ++ due l.fn.self l.fn.works.items;
  weight : load l.fn.self l.works.items + sum_by print_weight (take l.left (trees_at l.fn.self l.place)) ≤ load l.fn.self l.fn.works.items + sum_by print_weight (take l.fn.count (trees_at l.fn.self l.fn.end));
}

abbrev pub decreases-members : goal.decreases-members
decreases-members l = l.left
