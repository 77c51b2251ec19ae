use Rattle.std.proofs.Common.{arith, refl, subst, sym}
use Rattle.latex2mathml_tex_grammar.specs.{Rules.rows_of_text, Separators.text_columns}
use Rattle.latex2mathml_tex.specs.{Frames.context_at, Steps.Begins, Steps.left_of, Steps.level}
use Rattle.latex2mathml_tex.proofs.{Rows.step_within, TableRules.text_begins}
use Rattle.latex2mathml_tex.proofs.parse.Parser.begin_text.Goals as goal

pub returns-clause-holds : goal.returns-clause-holds
returns-clause-holds c = λ s g.
    let p = c.args.self.now in
    let q = record p { input = c.has_separator.new.self } in
    let columns = text_columns (left_of p) in
    let due : Begins (rows_of_text columns (context_at (level 0 s q))) 0 s q =
    subst (λ i. Begins (rows_of_text columns (context_at (level 0 s (record p { input = i })))) 0 s (record p { input = i })) (sym c.has_separator.ensures.unchanged) g in
    c.begin_first_cell.ensures.holds s (text_begins s q c.columns_by-columns.result 0 columns (rw c.has_separator.ensures.answer at c.columns_by-columns.ensures) refl due)

pub returns-clause-step : goal.returns-clause-step
returns-clause-step c =
    let p = c.args.self.now in
    step_within p (record p { input = c.has_separator.new.self }) c.begin_first_cell.new.self c.begin_first_cell.new.next c.begin_first_cell.result 12 13 (rw c.has_separator.ensures.unchanged (omega arith)) c.begin_first_cell.ensures.step
