use Rattle.std.proofs.Common.{◌≡◌, ◌-◌, ◌≤◌, ◌++◌, [], length, reverse, string_bytes, take}
use Rattle.latex2mathml_elements.specs.{Element.children, Print.prints}
use Rattle.latex2mathml_builder.specs.Built.{elements_in}
use Rattle.latex2mathml_builder.proofs.builder.Builder.write.Given as goal

abbrev pub invariant-elements : goal.invariant-elements
invariant-elements l = record {
  none : l.list.items ≡ [];
  within : l.place ≤ length l.fn.self.stack;
  print : string_bytes l.out ++ prints (children (reverse (take (length l.fn.self.stack - l.place) (elements_in l.fn.self)))) ≡ string_bytes l.fn.out ++ prints (children (reverse (take l.fn.count (elements_in l.fn.self))));
}

abbrev pub decreases-elements : goal.decreases-elements
decreases-elements l = length l.fn.self.stack - l.place
