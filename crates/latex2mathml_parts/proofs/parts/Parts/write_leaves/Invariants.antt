use Rattle.std.proofs.Common.{◌≡◌, ◌-◌, ◌≤◌, ◌++◌, None, reverse, string_bytes, take}
use Rattle.latex2mathml_parts.specs.{Forests.trees_at, Groups.members_in}
use Rattle.latex2mathml_parts.proofs.parts.Parts.write_leaves.Given as goal

abbrev pub invariant-members : goal.invariant-members
invariant-members l = record {
  from : l.fn.end - l.fn.count ≤ l.place;
  within : l.place ≤ l.fn.end;
  print : string_bytes l.out ≡ string_bytes l.fn.out ++ members_in l.fn.group None (reverse (take (l.place - (l.fn.end - l.fn.count)) (trees_at l.fn.self l.place)));
}

abbrev pub decreases-members : goal.decreases-members
decreases-members l = l.fn.end - l.place
