use Rattle.std.proofs.Common.{arith}
use Rattle.latex2mathml_tex_grammar.specs.Rules.{a_skip}
use Rattle.latex2mathml_tex_grammar.specs.Scanning.{BeforeLengthInBraces, BeforeStar}
use Rattle.latex2mathml_tex.proofs.TableRules.{passed_begins, passed_step}
use Rattle.latex2mathml_tex.proofs.parse.Parser.skip_in_braces.Goals as goal

pub returns-clause-holds : goal.returns-clause-holds
returns-clause-holds c = λ s g.
    c.skip.ensures.holds s (passed_begins s c.args.self.now c.pass.new.self c.args.context BeforeStar (a_skip c.args.place BeforeLengthInBraces) c.in_ok-pass.ensures g)

pub returns-clause-step : goal.returns-clause-step
returns-clause-step c = passed_step c.args.self.now c.pass.new.self BeforeStar 13 13 c.skip.new.self c.skip.new.next c.skip.result c.in_ok-pass.ensures (omega arith) c.skip.ensures.step
