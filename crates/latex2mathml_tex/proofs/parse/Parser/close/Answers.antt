use Rattle.std.proofs.Common.{ap, arith}
use Rattle.latex2mathml_tex_grammar.specs.Starts as starts
use Rattle.latex2mathml_tex_units.specs.Taking.{piece_of}
use Rattle.latex2mathml_tex.specs.Frames.{ending_of}
use Rattle.latex2mathml_tex.specs.Steps.{ClosesRow, core_made}
use Rattle.latex2mathml_tex.specs.declared.parse.endings.Ending.TheVariants as ending
use Rattle.latex2mathml_tex.proofs.Closing.{arrow_closed, closed_can, degree_closed, formula_closed, words_closed_step}
use Rattle.latex2mathml_tex.proofs.Rows.{step_within}
use Rattle.latex2mathml_tex.proofs.parse.Parser.close.Goals as goal

pub returns-in-Group-clause-holds : goal.returns-in-Group-clause-holds
returns-in-Group-clause-holds c = λ s g. c.close_braced.ensures.holds s c.args.place (rw c.in-Group.is at g)

pub returns-in-Operand-clause-holds : goal.returns-in-Operand-clause-holds
returns-in-Operand-clause-holds c = λ s g. c.close_braced-in-Operand.ensures.holds s c.args.place (rw c.in-Operand.is at g)

pub returns-in_ok-put_row-in-Degree-clause-holds : goal.returns-in_ok-put_row-in-Degree-clause-holds
returns-in_ok-put_row-in-Degree-clause-holds c = λ s g.
    let h : ClosesRow ending.Degree c.args.place c.args.row s c.args.self.now = rw c.in-Degree.is at g in
    let due = degree_closed s c.args.self.now c.put_row.new.builder c.args.place c.args.row c.in_ok-put_row-in-Degree.ensures c.innermost.result c.context-context.result c.innermost.ensures c.context-context.ensures h in
    c.open.ensures.holds s h.style due

pub returns-in_ok-put_label_row-in-BelowArrow-clause-holds : goal.returns-in_ok-put_label_row-in-BelowArrow-clause-holds
returns-in_ok-put_label_row-in-BelowArrow-clause-holds c = λ s g.
    let h : ClosesRow ending.BelowArrow c.args.place c.args.row s c.args.self.now = rw c.in-BelowArrow.is at g in
    let due = arrow_closed s c.args.self.now c.put_label_row.new.builder c.args.place c.args.row c.in_ok-put_label_row-in-BelowArrow.ensures c.innermost-in-BelowArrow.result c.context-context-in-BelowArrow.result c.styled-small.result c.innermost-in-BelowArrow.ensures c.context-context-in-BelowArrow.ensures c.styled-small.ensures h in
    c.open-in-BelowArrow.ensures.holds s h.style due

pub returns-in_ok-put_braced-in-Formula-clause-holds : goal.returns-in_ok-put_braced-in-Formula-clause-holds
returns-in_ok-put_braced-in-Formula-clause-holds c = λ s g.
    formula_closed s c.args.self.now c.put_braced.new.builder c.args.place c.args.row c.in_ok-put_braced-in-Formula.ensures c.in-Formula.count (rw c.in-Formula.is at g)

pub returns-in_ok-put_braced-in-Formula-clause-step : goal.returns-in_ok-put_braced-in-Formula-clause-step
returns-in_ok-put_braced-in-Formula-clause-step c =
    words_closed_step c.args.self.now c.put_braced.new.builder c.args.row c.in_ok-put_braced-in-Formula.ensures c.in-Formula.count (rw c.in-Formula.is at c.requires.can)

pub open-requires-clause-can : goal.open-requires-clause-can
open-requires-clause-can c = closed_can c.args.self.now c.put_row.new.builder c.args.row c.in_ok-put_row-in-Degree.ensures core_made 0 (rw c.in-Degree.is at c.requires.can)

pub open-requires-in-BelowArrow-clause-can : goal.open-requires-in-BelowArrow-clause-can
open-requires-in-BelowArrow-clause-can c = closed_can c.args.self.now c.put_label_row.new.builder c.args.row c.in_ok-put_label_row-in-BelowArrow.ensures core_made 1 (rw c.in-BelowArrow.is at c.requires.can)

pub returns-in_ok-put_row-in-Degree-clause-step : goal.returns-in_ok-put_row-in-Degree-clause-step
returns-in_ok-put_row-in-Degree-clause-step c =
    let p = c.args.self.now in
    step_within p (record p { builder = c.put_row.new.builder }) c.open.new.self c.open.new.next c.open.result 6 13 (omega arith) c.open.ensures.step

pub returns-in_ok-put_label_row-in-BelowArrow-clause-step : goal.returns-in_ok-put_label_row-in-BelowArrow-clause-step
returns-in_ok-put_label_row-in-BelowArrow-clause-step c =
    let p = c.args.self.now in
    step_within p (record p { builder = c.put_label_row.new.builder }) c.open-in-BelowArrow.new.self c.open-in-BelowArrow.new.next c.open-in-BelowArrow.result 6 13 (omega arith) c.open-in-BelowArrow.ensures.step

pub close_cell-requires-clause-ends : goal.close_cell-requires-clause-ends
close_cell-requires-clause-ends c = rw c.in-Cell.is at c.requires.ends

pub unreachable-requires : goal.unreachable-requires
unreachable-requires c =
    let ends = c.requires.ends 0 in
    let none = ap (λ e. starts.ends (ending_of e 0) (piece_of c.args.unit.piece)) c.in-Text.is in
    cc
