use Rattle.latex2mathml_tex.proofs.Beginning.{words_begin, words_begin_step}
use Rattle.latex2mathml_tex.proofs.parse.Parser.text.Goals as goal

pub returns-clause-holds : goal.returns-clause-holds
returns-clause-holds c = λ s g.
    rw c.of.ensures (words_begin c.args.self.now c.skip_space.new.self c.push.new.self c.args.place c.args.context c.in_ok-push.ensures c.skip_space.ensures.left s g)

pub returns-clause-step : goal.returns-clause-step
returns-clause-step c =
    rw c.of.ensures (words_begin_step c.args.self.now c.skip_space.new.self c.push.new.self c.args.place c.args.context c.in_ok-push.ensures c.skip_space.ensures.left c.requires.begin)
