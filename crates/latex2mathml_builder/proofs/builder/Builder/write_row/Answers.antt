use Rattle.std.proofs.Common.{◌≡◌, ◌-◌, ◌∙◌, ◌++◌, ap, arith, codes, string_bytes}
use Rattle.std.proofs.lemmas.Result.{IfOk-weaker}
use Rattle.latex2mathml_attributes.specs.Columns.{columns_of}
use Rattle.latex2mathml_builder.specs.Due.{cell_loads, cell_prints, due, settled_from}
use Rattle.latex2mathml_builder.proofs.builder.Builder.write_row.Goals as goal

pub returns-clause-print : goal.returns-clause-print
returns-clause-print c =
    let b = c.args.self.now in
    let columns = columns_of c.args.columns in
    let first = c.cells_at-first.result.0 in
    let count = c.cells_at-first.result.1 in
    let begins : first - first ≡ 0 = omega arith in
    let cells = ap (λ k. cell_prints columns k (settled_from b first count)) begins ∙ ap (λ l. cell_prints columns 0 l) c.cells_at-first.ensures.elements in
    IfOk-weaker c.write_cells.result _ _
    (λ run h. h ∙ ap (λ l. string_bytes c.args.out.now ++ ((l ++ codes "</mtr>") ++ due b c.args.works.now.items)) cells)
    c.write_cells.ensures.print

pub returns-clause-weight : goal.returns-clause-weight
returns-clause-weight c =
    let parts = ap cell_loads c.cells_at-first.ensures.elements in
    IfOk-weaker c.write_cells.result _ _
    (λ run h. omega (arith, h, parts))
    c.write_cells.ensures.weight
