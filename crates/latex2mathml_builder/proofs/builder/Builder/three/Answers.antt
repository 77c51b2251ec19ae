use Rattle.std.proofs.Common.{◌+◌, ◌≤◌, ◌∙◌, ◌++◌, ap, arith, length, sym}
use Rattle.latex2mathml_elements.specs.{Element.children, Print.prints}
use Rattle.latex2mathml_builder.specs.Built.{settled_in}
use Rattle.latex2mathml_builder.specs.Due.{arranged, due, settled_from}
use Rattle.latex2mathml_builder.proofs.{Parts.settled_count, Written.exchanged_due, Written.weight_exchanged}
use Rattle.latex2mathml_builder.proofs.builder.Builder.three.Goals as goal

pub returns-clause-print : goal.returns-clause-print
returns-clause-print c =
    let b = c.args.self.now in
    let first = c.args.first in
    let tag = c.args.tag.now in
    let rest = due b c.args.works.now.items in
    let enough : first + 3 ≤ length (settled_in b) = omega (arith, settled_count b.texts b.settled, c.requires.all) in
    exchanged_due (settled_in b) first enough tag rest _ _ _ _ _ c.run-2.ensures.print c.in_ok-push_work.ensures.print c.run-3.ensures.print c.in_ok-push_work-2.ensures.print c.run-4.ensures.print
    ∙ ap (λ e. prints (children (arranged e (settled_from b first 3))) ++ (tag ++ rest)) (sym c.if-not-is_exchanged.false)

pub returns-clause-weight : goal.returns-clause-weight
returns-clause-weight c =
    let b = c.args.self.now in
    let first = c.args.first in
    let enough : first + 3 ≤ length (settled_in b) = omega (arith, settled_count b.texts b.settled, c.requires.all) in
    omega (arith, weight_exchanged (settled_in b) first enough, c.run-2.ensures.weight, c.run-3.ensures.weight, c.run-4.ensures.weight, c.in_ok-push_work.ensures.weight, c.in_ok-push_work-2.ensures.weight)
