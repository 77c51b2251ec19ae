use Rattle.latex2mathml_program.proofs.Runs.{missed_by}
use Rattle.latex2mathml_program.proofs.job.run.Goals as goal

pub returns-in_err-answer-clause-outcome : goal.returns-in_err-answer-clause-outcome
returns-in_err-answer-clause-outcome g c =
    (c.in_err-answer.ensures.made.0, c.in_err-answer.ensures.made.1, missed_by _ _ (g.R.Source.state c.make.new.source) (g.W.Sink.state c.args.output.now) _ _ c.from_residual.ensures.1 c.in_err-answer.ensures.made.2 c.requires.output)
