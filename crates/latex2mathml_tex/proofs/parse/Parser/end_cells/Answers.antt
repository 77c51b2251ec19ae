use Rattle.std.proofs.Common.{◌∙◌, pos, ap, arith, refl, drop}
use Rattle.latex2mathml_elements.specs.{Columns.density_in, Struts.strut}
use Rattle.latex2mathml_attributes.specs.Arounds.{extent_of}
use Rattle.latex2mathml_tex.proofs.Tabled.{row_is_last, row_is_none}
use Rattle.std.proofs.lemmas.List.{length-drop}
use Rattle.latex2mathml_tex.specs.Steps.{elements_of}
use Rattle.latex2mathml_tex.proofs.parse.Parser.end_cells.Goals as goal

pub returns-then-is_no_row-clause-holds : goal.returns-then-is_no_row-clause-holds
returns-then-is_no_row-clause-holds c = λ s g.
    let none = c.if-is_no_row.ensures in
    c.end_table.ensures.holds s (row_is_none s c.args.self.now c.args.table c.args.count c.args.last c.args.at g none.0 none.1 none.2 (omega (arith, c.requires.can.elements)))

pub returns-clause-holds : goal.returns-clause-holds
returns-clause-holds c = λ s g.
    let props = c.strut-strut.ensures ∙ ap (λ d. strut d (pos 0)) c.density.ensures ∙ ap (λ columns. strut (density_in columns) (pos 0)) c.columns.ensures in
    c.end_table-2.ensures.holds s (row_is_last s c.args.self.now c.args.table c.args.count c.args.last c.args.at g c.put_last.new.builder _ (extent_of c.strut-strut.result) refl c.if-is_no_row.ensures (omega (arith, c.requires.can.elements)) c.in_ok-put_last.ensures props)

pub end_table-requires-2-clause-can : goal.end_table-requires-2-clause-can
end_table-requires-2-clause-can c =
    let xs = elements_of c.args.self.now in
    let cells = c.args.table.cells in
    let count = c.args.count in
    let can = c.requires.can in
    record {
      elements = rw c.in_ok-put_last.ensures (omega (arith, can.elements, length-drop count xs, length-drop cells (drop count xs)));
      awaits = record { accepted = can.awaits.accepted; nested = can.awaits.nested };
    }
