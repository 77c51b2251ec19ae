use Rattle.std.proofs.Common.{None, Some, ap}
use Rattle.latex2mathml_tex_commands.specs.Meanings.{change_of}
use Rattle.latex2mathml_tex_units.specs.Taking.{piece_of}
use Rattle.latex2mathml_tex_units.specs.declared.unit.Piece.TheVariants as piece
use Rattle.latex2mathml_tex.proofs.Beginning.{unit_begins}
use Rattle.latex2mathml_tex.proofs.Commanded.{change_found, no_command, rule_found}
use Rattle.latex2mathml_tex.proofs.parse.Parser.begin_unmarked.Goals as goal

pub returns-in_default-clause-holds : goal.returns-in_default-clause-holds
returns-in_default-clause-holds c = λ s g. c.begin_whole.ensures.holds s (g.begins (no_command c.args.unit.piece c.in_default.not-Command))

pub returns-in-Some-clause-holds : goal.returns-in-Some-clause-holds
returns-in-Some-clause-holds c = λ s g.
    let change = change_of c.in-Some.change in
    let some = change_found c.look_up-found.result c.in-Command.name.now c.look_up-found.ensures c.args.unit.piece (Some change) (ap piece_of c.in-Command.is) c.in-Some.ensures in
    c.change.ensures.holds s (g.changes change some)

pub returns-clause-holds : goal.returns-clause-holds
returns-clause-holds c = λ s g.
    let p = c.args.self.now in
    let u = c.args.unit in
    let name = c.in-Command.name in
    let found = c.look_up-found.result in
    let none = change_found found name.now c.look_up-found.ensures u.piece None (ap piece_of c.in-Command.is) c.in_default-change_by.ensures in
    let begins = unit_begins s p c.innermost.result c.context-context.result u (piece.Command name) c.context-context.ensures c.in-Command.is c.innermost.ensures (g.begins none) in
    c.command.ensures.holds s (rule_found found name.now c.look_up-found.ensures s p c.context-context.result u.place begins)
