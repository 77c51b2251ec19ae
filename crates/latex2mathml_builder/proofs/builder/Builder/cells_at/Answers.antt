use Rattle.std.proofs.Common.{◌+◌, ◌<◌, ◌≤◌, ◌∷◌, ◌∙◌, ap, arith, drop, length, subst, sym}
use Rattle.latex2mathml_elements.specs.Element.{children, container}
use Rattle.latex2mathml_builder.specs.Built.{Fits, element_of, settled_in}
use Rattle.latex2mathml_builder.specs.Due.{in_cells, settled_from}
use Rattle.latex2mathml_attributes.specs.Names.{attributes_if_any, container_of}
use Rattle.latex2mathml_builder.proofs.{Parts.settled_count, Tables.in_row, Written.taken_length}
use Rattle.latex2mathml_builder.proofs.builder.Builder.cells_at.Goals as goal

pub returns-in-Mrow-clause-elements : goal.returns-in-Mrow-clause-elements
returns-in-Mrow-clause-elements c =
    let b = c.args.self.now in
    let found = c.in-Container in
    let rest = drop (c.args.place + 1) (settled_in b) in
    let inside = settled_from b found.first found.count in
    let fits = subst (λ p. Fits b.texts (length b.settled) p) found.is c.settled_at.ensures.fits in
    let enough : found.first + found.count ≤ length (settled_in b) = omega (arith, settled_count b.texts b.settled, fits) in
    let some : 0 < length inside = omega (arith, taken_length (settled_in b) found.first found.count enough, c.if-count-gt0.true) in
    sym (ap in_cells (c.settled_at.ensures.element ∙ ap (λ p. element_of b.texts (settled_in b) p ∷ rest) found.is)
    ∙ ap (λ t. in_cells (container (container_of t) (attributes_if_any found.field-1) (children inside) ∷ rest)) c.in-Mrow.is
    ∙ in_row (attributes_if_any found.field-1) inside rest some)
