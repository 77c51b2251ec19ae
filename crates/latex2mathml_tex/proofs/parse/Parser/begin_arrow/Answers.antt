use Rattle.std.proofs.Common.{[], refl}
use Rattle.latex2mathml_tex_commands.specs.declared.diagrams.DiagramArrow.TheVariants as arrow
use Rattle.latex2mathml_tex_grammar.specs.{Diagrams.high_bars, Diagrams.in_diagram, Diagrams.long_equals, Rows.row_element}
use Rattle.latex2mathml_tex.specs.{Diagrams.MakesArrow, Tables.table_of}
use Rattle.latex2mathml_tex.specs.declared.parse.endings.Labeled.{Labeled}
use Rattle.latex2mathml_tex.proofs.Diagrams.{arrow_put, first_label_due}
use Rattle.latex2mathml_tex.proofs.parse.Parser.begin_arrow.Goals as goal

pub returns-in_ok-put_bare_arrow-in-Labeled-clause-holds : goal.returns-in_ok-put_bare_arrow-in-Labeled-clause-holds
returns-in_ok-put_bare_arrow-in-Labeled-clause-holds c = λ s g.
    let p = c.args.self.now in
    let labeled : Labeled = record { direction = c.in-Labeled.direction; diagram = c.args.diagram; place = c.args.place } in
    let h : MakesArrow (arrow.Labeled c.in-Labeled.direction) (table_of c.args.diagram) c.args.place c.args.at s p = rw c.in-Labeled.is at g in
    c.open.ensures.holds s h.style (first_label_due s p c.put_bare_arrow.new.builder labeled c.args.at c.innermost.result c.context-around.result c.styled-small.result c.innermost.ensures c.context-around.ensures c.styled-small.ensures c.in_ok-put_bare_arrow-in-Labeled.ensures c.empty.result c.empty.ensures h)

pub returns-in_ok-put_long_equals-in-LongEquals-clause-holds : goal.returns-in_ok-put_long_equals-in-LongEquals-clause-holds
returns-in_ok-put_long_equals-in-LongEquals-clause-holds c = λ s g.
    let p = c.args.self.now in
    let h : MakesArrow arrow.LongEquals (table_of c.args.diagram) c.args.place c.args.at s p = rw c.in-LongEquals.is at g in
    c.next_cell.ensures.holds s (arrow_put s p c.put_long_equals.new.builder arrow.LongEquals (table_of c.args.diagram) c.args.place c.args.at long_equals c.in_ok-put_long_equals-in-LongEquals.ensures refl h)

pub returns-in_ok-put_high_bars-in-HighBars-clause-holds : goal.returns-in_ok-put_high_bars-in-HighBars-clause-holds
returns-in_ok-put_high_bars-in-HighBars-clause-holds c = λ s g.
    let p = c.args.self.now in
    let h : MakesArrow arrow.HighBars (table_of c.args.diagram) c.args.place c.args.at s p = rw c.in-HighBars.is at g in
    c.next_cell-in-HighBars.ensures.holds s (arrow_put s p c.put_high_bars.new.builder arrow.HighBars (table_of c.args.diagram) c.args.place c.args.at high_bars c.in_ok-put_high_bars-in-HighBars.ensures refl h)

pub returns-in_ok-put_row-in-Nothing-clause-holds : goal.returns-in_ok-put_row-in-Nothing-clause-holds
returns-in_ok-put_row-in-Nothing-clause-holds c = λ s g.
    let p = c.args.self.now in
    let h : MakesArrow arrow.Nothing (table_of c.args.diagram) c.args.place c.args.at s p = rw c.in-Nothing.is at g in
    c.next_cell-in-Nothing.ensures.holds s (arrow_put s p c.put_row.new.builder arrow.Nothing (table_of c.args.diagram) c.args.place c.args.at (in_diagram (row_element [])) c.in_ok-put_row-in-Nothing.ensures refl h)
