use Rattle.std.proofs.Common.{◌∙◌, arith}
use Rattle.latex2mathml_tex.proofs.Resting.{formula_step}
use Rattle.latex2mathml_tex.proofs.parse.Parser.end_formula.Goals as goal

pub returns-clause-step : goal.returns-clause-step
returns-clause-step c =
    let whole = c.in_ok-row.ensures in
    let free = c.isolate.ensures in
    formula_step c.args.self.now c.isolate.new.builder c.args.row c.in_ok-row.row (free.below ∙ whole.below) (omega (arith, whole.count, free.length)) c.requires.elements
