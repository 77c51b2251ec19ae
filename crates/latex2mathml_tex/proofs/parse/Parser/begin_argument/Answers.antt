use Rattle.std.proofs.Common.{Some, subst}
use Rattle.latex2mathml_tex_grammar.specs.Rules.{argument_rule}
use Rattle.latex2mathml_tex_units.specs.{Scans.argument_of, Environments.environment_of}
use Rattle.latex2mathml_tex_atoms.specs.Models.{context_of}
use Rattle.latex2mathml_tex.specs.Steps.{BeginsIn}
use Rattle.latex2mathml_tex.proofs.parse.Parser.begin_argument.Goals as goal

pub returns-in-ColumnList-clause-holds : goal.returns-in-ColumnList-clause-holds
returns-in-ColumnList-clause-holds c = λ s g.
    let e = c.args.environment.now in
    c.begin_listed.ensures.holds s (subst (λ a. BeginsIn c.args.context (argument_rule c.args.place (context_of c.args.context) e.name.now (environment_of e) (Some (argument_of a))) 0 s c.args.self.now) c.in-ColumnList.is g)

pub returns-in-Number-clause-holds : goal.returns-in-Number-clause-holds
returns-in-Number-clause-holds c = λ s g.
    let e = c.args.environment.now in
    c.begin_numbered.ensures.holds s (subst (λ a. BeginsIn c.args.context (argument_rule c.args.place (context_of c.args.context) e.name.now (environment_of e) (Some (argument_of a))) 0 s c.args.self.now) c.in-Number.is g)
