use Rattle.std.proofs.Common.{◌≡◌, ◌+◌, ◌-◌, arith, drop, false, length-drop, nat_eq}
use Rattle.latex2mathml_builder.specs.Built.{settled_in}
use Rattle.latex2mathml_builder.proofs.{Parts.settled_count, Tables.not_one_line}
use Rattle.latex2mathml_builder.proofs.builder.Builder.last_line.Goals as goal

pub returns-else-count-eq2 : goal.returns-else-count-eq2
returns-else-count-eq2 c =
    let b = c.args.self.now in
    let first = c.args.first in
    let count = c.args.count in
    let other : nat_eq (count - 1) 1 ≡ false = grind (arith, c.if-count-eq2.false, c.requires.some) in
    let none = not_one_line (count - 1) (drop (first + 1) (settled_in b)) (omega (arith, length-drop (first + 1) (settled_in b), settled_count b.texts b.settled, c.requires.all, c.requires.some)) other in
    grind (arith, none, c.if-count-eq2.false)
