use Rattle.std.proofs.Common.{◌≡◌, suc, ◌+◌, ◌-◌, ◌≤◌, ◌∙◌, ◌++◌, ap, arith, codes, length, string_bytes}
use Rattle.std.proofs.lemmas.Result.{IfOk-weaker}
use Rattle.latex2mathml_builder.specs.Built.{settled_in}
use Rattle.latex2mathml_attributes.specs.Columns.{columns_of}
use Rattle.latex2mathml_builder.specs.Due.{cell_prints, due, settled_from}
use Rattle.latex2mathml_builder.proofs.Parts.{settled_count}
use Rattle.latex2mathml_builder.proofs.Tables.{before_due, cell_loads_parted, cells_parted, ended, others_due}
use Rattle.latex2mathml_builder.proofs.builder.Builder.write_cells.Goals as goal

pub returns-clause-print : goal.returns-clause-print
returns-clause-print c =
    let b = c.args.self.now in
    let columns = columns_of c.args.columns in
    let first = c.args.first in
    let count = c.args.count in
    let end = codes "</mtr>" in
    let enough : first + count ≤ length (settled_in b) = omega (arith, settled_count b.texts b.settled, c.requires.all) in
    let k = first - c.args.start in
    let next : first + 1 - c.args.start ≡ suc k = omega (arith, c.requires.row) in
    let one = cell_prints columns k (settled_from b first 1) in
    let after = settled_from b (first + 1) (count - 1) in
    let others = cell_prints columns (suc k) after in
    let out = string_bytes c.args.out.now in
    let rest = due b c.args.works.now.items in
    IfOk-weaker c.write_cell.result _ _
    (λ run h. others_due out rest one (others ++ end) _ _ _ (ended _ one others end (cells_parted columns (settled_in b) first count c.requires.some enough k)) (c.in_ok-push_work.ensures.print ∙ ap (λ n. (cell_prints columns n after ++ end) ++ rest) next) (before_due out _ _ _ _ h))
    c.write_cell.ensures.print

pub returns-clause-weight : goal.returns-clause-weight
returns-clause-weight c =
    let b = c.args.self.now in
    let enough : c.args.first + c.args.count ≤ length (settled_in b) = omega (arith, settled_count b.texts b.settled, c.requires.all) in
    let parts = cell_loads_parted (columns_of c.args.columns) (settled_in b) c.args.first c.args.count c.requires.some enough in
    IfOk-weaker c.write_cell.result _ _
    (λ run h. omega (arith, h, parts, c.in_ok-push_work.ensures.weight))
    c.write_cell.ensures.weight
