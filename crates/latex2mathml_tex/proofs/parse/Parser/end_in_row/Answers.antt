use Rattle.latex2mathml_tex.proofs.Finished.{formula_ended}
use Rattle.latex2mathml_tex.proofs.parse.Parser.end_in_row.Goals as goal

pub returns-in-Some-clause-holds : goal.returns-in-Some-clause-holds
returns-in-Some-clause-holds c = λ s h.
    formula_ended c.args.self.now c.take_formula.new.self c.in-Some.row s h c.in-Some.ensures c.args.at c.requires.end c.isolate.new.builder c.isolate.ensures.row
