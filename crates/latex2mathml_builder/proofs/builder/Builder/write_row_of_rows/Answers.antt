use Rattle.std.proofs.Common.{◌≡◌, ◌+◌, ◌-◌, ◌≤◌, ◌∙◌, ◌++◌, ap, arith, codes, drop, if◌then◌else◌, length, string_bytes, sym}
use Rattle.std.proofs.lemmas.Result.{IfOk-weaker}
use Rattle.latex2mathml_elements.specs.{Columns.behind_row, Print.row_print, Print.row_tag, Lines.NoLine, Lines.is_drawn, Lines.row_lines, Tables.last_line}
use Rattle.latex2mathml_builder.specs.Built.{settled_in}
use Rattle.latex2mathml_attributes.specs.{Columns.columns_of, Lines.line_of}
use Rattle.latex2mathml_builder.specs.Due.{cell_prints, columns_before, due, in_cells, row_loads, row_prints, settled_from}
use Rattle.latex2mathml_builder.proofs.Parts.{settled_count}
use Rattle.latex2mathml_builder.proofs.Tables.{begun, ended, last_there, more_there, others_due, row_load_taken, row_taken}
use Rattle.latex2mathml_builder.proofs.builder.Builder.write_row_of_rows.Goals.{then-left-eq0, else-left-eq0}
use Rattle.latex2mathml_builder.proofs.builder.Builder.write_row_of_rows.Goals as goal

pub returns-clause-print : goal.returns-clause-print
returns-clause-print c =
    let b = c.args.self.now in
    let columns = columns_of c.args.columns in
    let line = line_of c.args.line in
    let first = c.args.first in
    let count = c.args.count in
    let xs = settled_in b in
    let enough : first + count ≤ length xs = omega (arith, settled_count b.texts b.settled, c.requires.all) in
    let below = last_line (settled_from b (first + 1) (count - 1)) in
    let here = columns_before (settled_from b (first + 1) (count - 1)) columns in
    let cells = cell_prints here 0 (in_cells (drop first xs)) in
    let left = c.rows_left-left.ensures ∙ ap (λ k. if is_drawn k then 0 else count - 1) c.last_line-below.ensures in
    let rest = row_prints (behind_row columns) NoLine (settled_from b (first + 1) (if is_drawn below then 0 else count - 1)) in
    let old = due b c.args.works.now.items in
    let out = string_bytes c.args.out.now in
    let puts =
    c.in_ok-push_work.ensures.print
    ∙ ap (λ k. (row_prints k NoLine (settled_from b (first + 1) c.rows_left-left.result) ++ codes "</mtable>") ++ old) c.behind_row.ensures
    ∙ ap (λ n. (row_prints (behind_row columns) NoLine (settled_from b (first + 1) n) ++ codes "</mtable>") ++ old) left in
    let tag = c.in_ok-push_str.ensures.bytes ∙ ap (λ l. out ++ l) (c.row_tag.ensures ∙ ap (λ k. row_tag (row_lines line k)) c.last_line-below.ensures) in
    let is : columns_of c.if-left-eq0.here ≡ here = elim c.if-left-eq0.branch [
      | then-left-eq0 w ↦ ap columns_of w.here-is ∙ w.in_last_row-here.ensures ∙ sym (last_there columns xs first count c.requires.some enough (sym left ∙ w.if-left-eq0.true))
      | else-left-eq0 w ↦ ap columns_of w.here-is ∙ sym (more_there columns xs first count c.requires.some enough (λ e. absurd (w.if-left-eq0.false (left ∙ e))))
    ] in
    let own = cell_prints (columns_of c.if-left-eq0.here) 0 (in_cells (drop first xs)) in
    let same = ap (λ k. row_print (row_lines line below) (cell_prints k 0 (in_cells (drop first xs)))) (sym is) in
    IfOk-weaker c.write_row.result _ _
    (λ run h. others_due out old (row_print (row_lines line below) cells) (rest ++ codes "</mtable>") _ _ _ (ended _ (row_print (row_lines line below) cells) rest (codes "</mtable>") (row_taken columns xs first count c.requires.some enough line c.requires.row)) puts
    (begun out _ (row_tag (row_lines line below)) (own ++ codes "</mtr>") (row_print (row_lines line below) cells) _ _ tag h same))
    c.write_row.ensures.print

pub returns-clause-weight : goal.returns-clause-weight
returns-clause-weight c =
    let b = c.args.self.now in
    let columns = columns_of c.args.columns in
    let first = c.args.first in
    let count = c.args.count in
    let xs = settled_in b in
    let enough : first + count ≤ length xs = omega (arith, settled_count b.texts b.settled, c.requires.all) in
    let left = c.rows_left-left.ensures ∙ ap (λ k. if is_drawn k then 0 else count - 1) c.last_line-below.ensures in
    let rest =
    ap (λ k. row_loads k NoLine (settled_from b (first + 1) c.rows_left-left.result)) c.behind_row.ensures
    ∙ ap (λ n. row_loads (behind_row columns) NoLine (settled_from b (first + 1) n)) left in
    let parts = row_load_taken columns xs first count c.requires.some enough (line_of c.args.line) c.requires.row in
    IfOk-weaker c.write_row.result _ _
    (λ run h. omega (arith, h, parts, rest, c.in_ok-push_work.ensures.weight))
    c.write_row.ensures.weight
