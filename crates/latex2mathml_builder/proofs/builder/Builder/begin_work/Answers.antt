use Rattle.std.proofs.Common.{◌++◌, ◌∙◌, ap, arith, string_bytes, sym}
use Rattle.std.proofs.lemmas.Result.{IfOk-weaker}
use Rattle.latex2mathml_builder.specs.Due.{due, work_print, work_weight}
use Rattle.latex2mathml_builder.proofs.builder.Builder.begin_work.Goals as goal

pub returns-in-Rows-clause-print : goal.returns-in-Rows-clause-print
returns-in-Rows-clause-print c =
    let b = c.args.self.now in
    let rest = due b c.args.works.now.items in
    IfOk-weaker c.write_rows.result _ _
    (λ run h. h ∙ ap (λ w. string_bytes c.args.out.now ++ (work_print b w ++ rest)) (sym c.in-Rows.is))
    c.write_rows.ensures.print

pub returns-in-Rows-clause-weight : goal.returns-in-Rows-clause-weight
returns-in-Rows-clause-weight c =
    let whole = ap (work_weight c.args.self.now) c.in-Rows.is in
    IfOk-weaker c.write_rows.result _ _ (λ run h. omega (arith, h, whole)) c.write_rows.ensures.weight

pub returns-in-Cells-clause-print : goal.returns-in-Cells-clause-print
returns-in-Cells-clause-print c =
    let b = c.args.self.now in
    let rest = due b c.args.works.now.items in
    IfOk-weaker c.write_cells.result _ _
    (λ run h. h ∙ ap (λ w. string_bytes c.args.out.now ++ (work_print b w ++ rest)) (sym c.in-Cells.is))
    c.write_cells.ensures.print

pub returns-in-Cells-clause-weight : goal.returns-in-Cells-clause-weight
returns-in-Cells-clause-weight c =
    let whole = ap (work_weight c.args.self.now) c.in-Cells.is in
    IfOk-weaker c.write_cells.result _ _ (λ run h. omega (arith, h, whole)) c.write_cells.ensures.weight
