use Rattle.std.proofs.Common.{◌-◌, ◌<◌, ◌∙◌, ◌++◌, ap, arith, drop, length, length-drop, string_bytes}
use Rattle.latex2mathml_elements.specs.{Columns.column_at, Print.cell_tag}
use Rattle.latex2mathml_builder.specs.Built.{settled_in}
use Rattle.latex2mathml_attributes.specs.Columns.{columns_of}
use Rattle.latex2mathml_builder.proofs.{Parts.settled_count, Tables.cell_begun, Tables.one_cell_loaded, Tables.one_cell_written}
use Rattle.latex2mathml_builder.proofs.builder.Builder.write_cell.Goals as goal

pub returns-clause-print : goal.returns-clause-print
returns-clause-print c =
    let b = c.args.self.now in
    let columns = columns_of c.args.columns in
    let k = c.args.place - c.args.start in
    let xs = drop c.args.place (settled_in b) in
    let some : 0 < length xs = omega (arith, length-drop c.args.place (settled_in b), settled_count b.texts b.settled, c.requires.one) in
    cell_begun (string_bytes c.args.out.now) (cell_tag (column_at columns k)) _ _ _ _ (c.in_ok-append_tag.ensures ∙ ap (λ d. string_bytes c.args.out.now ++ cell_tag d) c.column_at.ensures) c.run.ensures.print (one_cell_written columns k xs some)

pub returns-clause-weight : goal.returns-clause-weight
returns-clause-weight c =
    let b = c.args.self.now in
    let xs = drop c.args.place (settled_in b) in
    let some : 0 < length xs = omega (arith, length-drop c.args.place (settled_in b), settled_count b.texts b.settled, c.requires.one) in
    let whole = one_cell_loaded xs some in
    omega (arith, whole, c.run.ensures.weight)
