use Rattle.std.proofs.Common.{ℕ, ap}
use Rattle.latex2mathml_attributes.specs.Lines.{line_of}
use Rattle.latex2mathml_tex.specs.declared.parse.endings.Table.{Table}
use Rattle.latex2mathml_tex.proofs.{TableRules.begun_step, Tabled.first_begins}
use Rattle.latex2mathml_tex.proofs.parse.Parser.begin_first_cell.Goals as goal

pub returns-clause-holds : goal.returns-clause-holds
returns-clause-holds c = λ s g.
    let table : ℕ → Table = λ n. record { kind = c.args.kind; rows = n; cells = 0 } in
    c.begin_cell.ensures.holds s (first_begins s c.args.self.now c.put_line.new.builder c.pass_lines.new.self c.args.kind c.args.place _ (line_of c.in_ok-line.line) (ap table c.in_ok-rows.ensures.count) c.in_ok-rows.ensures.elements c.in_ok-line.ensures.line c.in_ok-line.ensures.units g)

pub returns-clause-step : goal.returns-clause-step
returns-clause-step c = begun_step c.args.self.now c.put_line.new.builder c.pass_lines.new.self c.begin_cell.new.self c.begin_cell.new.next c.begin_cell.result c.in_ok-line.ensures.units c.begin_cell.ensures.step
