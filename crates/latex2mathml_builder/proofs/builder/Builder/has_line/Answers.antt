use Rattle.std.proofs.Common.{◌≡◌, ◌+◌, ◌-◌, ◌<◌, ◌≤◌, ◌∙◌, ap, arith, drop, false, length, sym}
use Rattle.latex2mathml_elements.specs.Columns.{InPairs}
use Rattle.latex2mathml_elements.specs.Lines.{is_drawn}
use Rattle.latex2mathml_builder.specs.{Built.settled_in, Due.first_line, Due.has_line, Due.settled_from}
use Rattle.latex2mathml_builder.proofs.{Parts.settled_count, Tables.line_among}
use Rattle.latex2mathml_builder.proofs.builder.Builder.has_line.Goals as goal

pub elements-preserved : goal.elements-preserved
elements-preserved c =
    let b = c.args.self.now in
    let place = c.elements.place in
    let end = c.args.first + c.args.count in
    let some : 0 < end - place = omega (arith, c.elements-test.true) in
    let enough : place + (end - place) ≤ length (settled_in b) = omega (arith, settled_count b.texts b.settled, c.requires, c.elements-test.true) in
    let none : is_drawn (first_line (drop place (settled_in b))) ≡ false = sym (ap is_drawn c.line_at.ensures) ∙ sym c.if-is_drawn.ensures in
    let fewer : end - place - 1 ≡ end - (place + 1) = omega arith in
    record {
      within = omega (arith, c.elements-test.true);
      same = sym (line_among InPairs (settled_in b) place (end - place) some enough false none ∙ ap (λ k. has_line (settled_from b (place + 1) k)) fewer) ∙ c.elements.invariant.same;
    }
