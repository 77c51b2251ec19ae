use Rattle.std.proofs.Common.{refl, rules}
use Rattle.latex2mathml_program.specs.Serving.{WrongWords, Ran, Walked}
use Rattle.latex2mathml_program.proofs.serving.serve.Goals as goal

pub returns-in-Some-clause-served : goal.returns-in-Some-clause-served
returns-in-Some-clause-served g c =
    Walked c.in-Some.path.now c.in-Some.ensures.asked c.convert.ensures.told

pub returns-in_default-job_asked-clause-served : goal.returns-in_default-job_asked-clause-served
returns-in_default-job_asked-clause-served g c =
    WrongWords (c.in_default-job_asked.ensures.other, c.in_default.ensures.other) refl refl c.put_usage.ensures.put.0 c.put_usage.ensures.put.1

pub returns-in-Ok-clause-served : goal.returns-in-Ok-clause-served
returns-in-Ok-clause-served g c =
    Ran c.in-Some-job_asked.job c.in-Some-job_asked.ensures.asked refl c.run.result c.run.ensures.outcome (rw c.in-Ok.is (search rules))

pub returns-in-Err-clause-served : goal.returns-in-Err-clause-served
returns-in-Err-clause-served g c =
    Ran c.in-Some-job_asked.job c.in-Some-job_asked.ensures.asked refl c.run.result c.run.ensures.outcome (rw c.in-Err.is (refl, c.put_fault.ensures.put))
