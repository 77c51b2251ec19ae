use Rattle.std.proofs.Common.{option_map, subst}
use Rattle.latex2mathml_tex_grammar.specs.Rules.{argument_rule}
use Rattle.latex2mathml_tex_units.specs.{Scans.argument_of, Environments.environment_of}
use Rattle.latex2mathml_tex_atoms.specs.Models.{context_of}
use Rattle.latex2mathml_tex.specs.Steps.{BeginsIn}
use Rattle.latex2mathml_tex.proofs.parse.Parser.begin_environment.Goals as goal

pub returns-in-Some-clause-holds : goal.returns-in-Some-clause-holds
returns-in-Some-clause-holds c = λ s g.
    let e = c.args.environment.now in
    c.begin_argument.ensures.holds s (subst (λ a. BeginsIn c.args.context (argument_rule c.args.place (context_of c.args.context) e.name.now (environment_of e) (option_map argument_of a)) 0 s c.args.self.now) c.in-Some.is g)
