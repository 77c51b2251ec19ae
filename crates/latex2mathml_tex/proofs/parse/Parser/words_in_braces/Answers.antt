use Rattle.latex2mathml_tex.proofs.{Taken.braces_opened_step, WordRules.braces_held}
use Rattle.latex2mathml_tex.proofs.parse.Parser.words_in_braces.Goals as goal

pub returns-clause-holds : goal.returns-clause-holds
returns-clause-holds c = λ s g. braces_held s c.args.self.now c.args.words c.args.place c.args.context c.push.new.self c.in_ok-push.ensures g

pub returns-clause-step : goal.returns-clause-step
returns-clause-step c = braces_opened_step c.args.self.now c.push.new.self c.args.place c.args.context c.args.words c.in_ok-push.ensures c.requires
