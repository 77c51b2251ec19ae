use Rattle.std.proofs.Common.{refl}
use Rattle.latex2mathml_tex_grammar.specs.Refusal.{MissingArgument, UnopenedBrace, refusal_at}
use Rattle.latex2mathml_tex_units.specs.declared.unit.Piece.TheVariants as piece
use Rattle.latex2mathml_tex.proofs.{Beginning.group_begins, Beginning.rule_refused, Beginning.unit_begins, Commanded.rule_found, Rows.refused_here}
use Rattle.latex2mathml_tex.proofs.parse.Parser.begin.Goals as goal

pub returns-in-Character-clause-holds : goal.returns-in-Character-clause-holds
returns-in-Character-clause-holds c = λ s g.
    c.character.ensures.holds s (unit_begins s c.args.self.now c.innermost.result c.context-context.result c.args.unit (piece.Character c.in-Character.c) c.context-context.ensures c.in-Character.is c.innermost.ensures g)

pub returns-in-Command-clause-holds : goal.returns-in-Command-clause-holds
returns-in-Command-clause-holds c = λ s g.
    let p = c.args.self.now in
    let name = c.in-Command.name in
    let begins = unit_begins s p c.innermost.result c.context-context.result c.args.unit (piece.Command name) c.context-context.ensures c.in-Command.is c.innermost.ensures g in
    c.command.ensures.holds s (rule_found c.look_up.result name.now c.look_up.ensures s p c.context-context.result c.args.unit.place begins)

pub returns-in-Open-clause-holds : goal.returns-in-Open-clause-holds
returns-in-Open-clause-holds c = λ s g.
    let p = c.args.self.now in
    c.open.ensures.holds s g.style (group_begins s p c.context-context.result c.empty.result c.args.unit.place c.empty.ensures (unit_begins s p c.innermost.result c.context-context.result c.args.unit piece.Open c.context-context.ensures c.in-Open.is c.innermost.ensures g))

pub returns-in-Close-clause-holds : goal.returns-in-Close-clause-holds
returns-in-Close-clause-holds c = λ s g.
    let p = c.args.self.now in
    let r = refusal_at UnopenedBrace c.args.unit.place in
    refused_here p c.refuse.new.self p.input c.refuse.new.self.refusal c.refuse.result (rw c.refuse.ensures.parser refl) c.refuse.ensures.state s r (rw c.refuse.ensures.parser refl) g.style (rule_refused s p r (rw c.in-Close.is at g))

pub returns-in-Space-clause-holds : goal.returns-in-Space-clause-holds
returns-in-Space-clause-holds c = λ s g.
    let p = c.args.self.now in
    let q = c.refuse-in-Space.new.self in
    let r = refusal_at MissingArgument c.args.unit.place in
    refused_here p q p.input q.refusal c.refuse-in-Space.result (rw c.refuse-in-Space.ensures.parser refl) c.refuse-in-Space.ensures.state s r (rw c.refuse-in-Space.ensures.parser refl) g.style (rule_refused s p r (rw c.in-Space.is at g))
