use Rattle.std.proofs.Common.{◌≡◌, ℕ, ℤ, of_z, to_z, w32, ◌+◌, ap, arith, drop, length, refl, subst, sym, ◌∙◌}
use Rattle.std.proofs.lemmas.Int.{ints}
use Rattle.latex2mathml_attributes.specs.Lines.{line_of}
use Rattle.latex2mathml_attributes.specs.Arounds.{extent_of}
use Rattle.latex2mathml_elements.specs.{Columns.density_in, Struts.strut}
use Rattle.latex2mathml_tex_grammar.specs.{RowLines.line_next, RowLines.lined, Scanning.BeforeRow, Scanning.past}
use Rattle.latex2mathml_tex.specs.declared.parse.endings.Table.{Table}
use Rattle.std.proofs.lemmas.List.{length-drop}
use Rattle.latex2mathml_tex.specs.Steps.{ClosesCell, core_made, elements_of}
use Rattle.latex2mathml_tex.specs.Tables.{cell_end_of}
use Rattle.latex2mathml_tex_units.specs.Taking.{piece_of}
use Rattle.latex2mathml_tex.proofs.{Closing.closed_can, Diagrams.only_diagrams, Rows.step_within, TableRules.broken_step, Tabled.cell_ends, Tabled.cell_parted, Tabled.row_broken}
use Rattle.latex2mathml_tex.proofs.parse.Parser.close_cell.Goals as goal

pub returns-in_ok-put_braced-in-PartsCells-clause-holds : goal.returns-in_ok-put_braced-in-PartsCells-clause-holds
returns-in_ok-put_braced-in-PartsCells-clause-holds c = λ s g.
    let ends = sym (ap cell_end_of c.in-PartsCells.is) ∙ c.cell_end.ensures in
    c.begin_cell.ensures.holds s (cell_parted s c.args.self.now c.args.table c.args.place c.args.row c.args.unit g c.put_braced.new.builder _ refl c.in_ok-put_braced-in-PartsCells.ensures ends)

pub returns-in_ok-lines-in-EndsRow-clause-holds : goal.returns-in_ok-lines-in-EndsRow-clause-holds
returns-in_ok-lines-in-EndsRow-clause-holds c = λ s g.
    let t = c.args.table in
    let ends = sym (ap cell_end_of c.in-EndsRow.is) ∙ c.cell_end.ensures in
    let line = line_of c.in_ok-line-in-EndsRow.line in
    let table : ℕ → Table = λ n. record t { rows = t.rows + 1 + n; cells = 0 } in
    let gap : ℤ = to_z w32 (of_z w32 c.in_ok-gap-in-EndsRow.gap) in
    let same : gap ≡ c.in_ok-gap-in-EndsRow.gap = omega (arith, ints) in
    let props = c.strut-strut.ensures ∙ ap (λ d. strut d gap) c.density.ensures ∙ ap (λ columns. strut (density_in columns) gap) c.columns.ensures in
    let puts = c.in_ok-lines-in-EndsRow.ensures.elements ∙ ap (lined line) c.in_ok-put_last-in-EndsRow.ensures in
    let behind = c.in_ok-gap-in-EndsRow.ensures.units in
    let follows = c.in_ok-line-in-EndsRow.ensures.line ∙ ap line_next behind in
    let units = c.in_ok-line-in-EndsRow.ensures.units ∙ ap (past BeforeRow) behind in
    c.begin_cell-in-EndsRow.ensures.holds s (row_broken s c.args.self.now t c.args.place c.args.row c.args.unit g c.put_line.new.builder c.pass_lines.new.self _ gap (extent_of c.strut-strut.result) line (ap table c.in_ok-lines-in-EndsRow.ensures.count) puts props (same ∙ c.in_ok-gap-in-EndsRow.ensures.gap) follows units ends)

pub returns-in_ok-lines-in-EndsRow-clause-step : goal.returns-in_ok-lines-in-EndsRow-clause-step
returns-in_ok-lines-in-EndsRow-clause-step c =
    let units = c.in_ok-line-in-EndsRow.ensures.units ∙ ap (past BeforeRow) c.in_ok-gap-in-EndsRow.ensures.units in
    broken_step c.args.self.now c.put_line.new.builder c.pass_lines.new.self c.begin_cell-in-EndsRow.new.self c.begin_cell-in-EndsRow.new.next c.begin_cell-in-EndsRow.result units c.begin_cell-in-EndsRow.ensures.step

pub returns-in-EndsTable-clause-holds : goal.returns-in-EndsTable-clause-holds
returns-in-EndsTable-clause-holds c = λ s g.
    let ends = sym (ap cell_end_of c.in-EndsTable.is) ∙ c.cell_end.ensures in
    c.end_cells.ensures.holds s (cell_ends s c.args.self.now c.args.table c.args.place c.args.row c.args.unit g ends)

pub returns-in-EndsTable-clause-step : goal.returns-in-EndsTable-clause-step
returns-in-EndsTable-clause-step c =
    step_within c.args.self.now c.args.self.now c.end_cells.new.self c.end_cells.new.next c.end_cells.result 5 13 (omega arith) c.end_cells.ensures.step

pub begin_cell-requires : goal.begin_cell-requires
begin_cell-requires c =
    let t = c.args.table in
    let can = closed_can c.args.self.now c.put_braced.new.builder c.args.row c.in_ok-put_braced-in-PartsCells.ensures core_made (t.cells + t.rows) c.requires.can in
    record { can = record { elements = omega (arith, can.elements); awaits = record { accepted = can.awaits.accepted; nested = can.awaits.nested } } }

pub returns-in_ok-put_braced-in-PartsCells-clause-step : goal.returns-in_ok-put_braced-in-PartsCells-clause-step
returns-in_ok-put_braced-in-PartsCells-clause-step c =
    let p = c.args.self.now in
    step_within p (record p { builder = c.put_braced.new.builder }) c.begin_cell.new.self c.begin_cell.new.next c.begin_cell.result 6 13 (omega arith) c.begin_cell.ensures.step

pub begin_cell-requires-in-EndsRow : goal.begin_cell-requires-in-EndsRow
begin_cell-requires-in-EndsRow c =
    let xs = elements_of c.args.self.now in
    let cells = c.args.table.cells in
    let count = c.args.row.count in
    let can = c.requires.can in
    let more = c.in_ok-lines-in-EndsRow.ensures.more in
    let put = ap length c.in_ok-put_last-in-EndsRow.ensures in
    record {
      can = record {
        elements = omega (arith, can.elements, more, put, length-drop count xs, length-drop cells (drop count xs));
        awaits = record { accepted = can.awaits.accepted; nested = can.awaits.nested };
      };
    }

pub unreachable-requires : goal.unreachable-requires
unreachable-requires c = only_diagrams c.args.table.kind 0 (piece_of c.args.unit.piece) c.in_default.not-Diagram c.in-BeginsArrow.ensures (c.requires.ends 0)

pub returns-in-Diagram-clause-holds : goal.returns-in-Diagram-clause-holds
returns-in-Diagram-clause-holds c = λ s g.
    let same = ap (λ k. record c.args.table { kind = k }) c.in-Diagram.is in
    c.close_at_arrow.ensures.holds s (subst (λ t. ClosesCell t c.args.place c.args.row c.args.unit s c.args.self.now) same g)
