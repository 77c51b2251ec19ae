use Rattle.std.proofs.Common.{◌≡◌, ◌+◌, ◌-◌, ◌≤◌, ◌∙◌, ◌++◌, ap, arith, codes, drop, length, string_bytes, sym, true}
use Rattle.std.proofs.lemmas.Result.{IfOk-weaker}
use Rattle.latex2mathml_builder.specs.Built.{settled_in}
use Rattle.latex2mathml_elements.specs.Lines.{is_drawn}
use Rattle.latex2mathml_attributes.specs.Columns.{columns_of}
use Rattle.latex2mathml_builder.specs.Due.{due, first_line, row_loads, row_prints, settled_from}
use Rattle.latex2mathml_builder.proofs.Parts.{settled_count}
use Rattle.latex2mathml_builder.proofs.Tables.{line_load_taken, line_taken}
use Rattle.latex2mathml_builder.proofs.builder.Builder.write_rows.Goals as goal

pub returns-clause-print : goal.returns-clause-print
returns-clause-print c =
    let b = c.args.self.now in
    let first = c.args.first in
    let count = c.args.count in
    let xs = settled_in b in
    let enough : first + count ≤ length xs = omega (arith, settled_count b.texts b.settled, c.requires.all) in
    let is : is_drawn (first_line (drop first xs)) ≡ true = sym (ap is_drawn c.line_at-line.ensures) ∙ sym c.if-not-is_drawn.ensures in
    IfOk-weaker c.write_row_of_rows-2.result _ _
    (λ run h. h ∙ ap (λ l. string_bytes c.args.out.now ++ ((l ++ codes "</mtable>") ++ due b c.args.works.now.items)) (ap (λ l. row_prints (columns_of c.args.columns) l (settled_from b (first + 1) (count - 1))) c.line_at-line.ensures ∙ sym (line_taken (columns_of c.args.columns) xs first count c.requires.some enough is)))
    c.write_row_of_rows-2.ensures.print

pub returns-clause-weight : goal.returns-clause-weight
returns-clause-weight c =
    let b = c.args.self.now in
    let first = c.args.first in
    let count = c.args.count in
    let xs = settled_in b in
    let enough : first + count ≤ length xs = omega (arith, settled_count b.texts b.settled, c.requires.all) in
    let is : is_drawn (first_line (drop first xs)) ≡ true = sym (ap is_drawn c.line_at-line.ensures) ∙ sym c.if-not-is_drawn.ensures in
    let whole = line_load_taken (columns_of c.args.columns) xs first count c.requires.some enough is in
    let own = ap (λ l. row_loads (columns_of c.args.columns) l (settled_from b (first + 1) (count - 1))) c.line_at-line.ensures in
    IfOk-weaker c.write_row_of_rows-2.result _ _
    (λ run h. omega (arith, h, whole, own))
    c.write_row_of_rows-2.ensures.weight
