use Rattle.std.proofs.Common.{arith, subst}
use Rattle.latex2mathml_tex_grammar.specs.Rules.{argument_rule, bracket_rule}
use Rattle.latex2mathml_tex_grammar.specs.Scanning.{BeforePosition}
use Rattle.latex2mathml_tex_units.specs.Environments.{bracket_of, environment_of}
use Rattle.latex2mathml_tex_atoms.specs.Models.{context_of}
use Rattle.latex2mathml_tex.specs.Steps.{BeginsIn}
use Rattle.latex2mathml_tex.proofs.TableRules.{passed_begins, passed_step}
use Rattle.latex2mathml_tex.proofs.parse.Parser.begin_placed.Goals as goal

pub returns-in_ok-pass-in-Position-clause-holds : goal.returns-in_ok-pass-in-Position-clause-holds
returns-in_ok-pass-in-Position-clause-holds c = λ s g.
    let p = c.args.self.now in
    let e = c.args.environment.now in
    let place = c.args.place in
    let context = context_of c.args.context in
    let rule = argument_rule place context e.name.now (environment_of e) (environment_of e).argument in
    let placed = subst (λ b. BeginsIn c.args.context (bracket_rule place context e.name.now (environment_of e) (bracket_of b)) 0 s p) c.in-Position.is g in
    c.begin_environment-in-Position.ensures.holds s (passed_begins s p c.pass.new.self c.args.context BeforePosition rule c.in_ok-pass-in-Position.ensures placed)

pub returns-in_ok-pass-in-Position-clause-step : goal.returns-in_ok-pass-in-Position-clause-step
returns-in_ok-pass-in-Position-clause-step c =
    passed_step c.args.self.now c.pass.new.self BeforePosition 13 13 c.begin_environment-in-Position.new.self c.begin_environment-in-Position.new.next c.begin_environment-in-Position.result
    c.in_ok-pass-in-Position.ensures (omega arith) c.begin_environment-in-Position.ensures.step
