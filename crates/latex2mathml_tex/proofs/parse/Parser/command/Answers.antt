use Rattle.std.proofs.Common.{◌≡◌, Some, ap, option_map, refl, subst, arith}
use Rattle.latex2mathml_tex_grammar.specs.Refusal.{UnknownCommand, refusal_at}
use Rattle.latex2mathml_tex_grammar.specs.Rules.{command_rule, refuses}
use Rattle.latex2mathml_tex_commands.specs.Meanings.{meaning_of}
use Rattle.latex2mathml_tex_atoms.specs.Models.{context_of}
use Rattle.latex2mathml_tex.specs.Steps.{Begins}
use Rattle.latex2mathml_tex.proofs.RuleSteps.{begun, rule_refuses}
use Rattle.latex2mathml_tex.proofs.Rows.{refused_step}
use Rattle.latex2mathml_tex.proofs.parse.Parser.command.Goals as goal

pub returns-clause-holds : goal.returns-clause-holds
returns-clause-holds c = λ s g.
    let p = c.args.self.now in
    let name = c.args.name.now in
    let r = refusal_at (UnknownCommand name) c.args.place in
    let rule : command_rule c.args.place (context_of c.args.context) name (option_map meaning_of c.args.found) ≡ refuses r = rw c.in_default.is refl in
    let reported = ap (λ n. Some (refusal_at (UnknownCommand n) c.args.place)) c.in_ok-name.ensures.ok in
    rule_refuses s p c.refuse.new.self c.refuse.result _ r c.refuse.ensures.parser c.refuse.ensures.state reported (subst (λ rule. Begins rule 0 s p) rule (begun g))

pub returns-clause-step : goal.returns-clause-step
returns-clause-step c = refused_step c.args.self.now c.refuse.new.self c.args.self.now.input _ c.refuse.result c.refuse.ensures.parser c.refuse.ensures.state (omega arith) c.requires.begin.elements
