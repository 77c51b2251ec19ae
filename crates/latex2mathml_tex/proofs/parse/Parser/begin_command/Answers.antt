use Rattle.std.proofs.Common.{◌≡◌, ◌∙◌, ap, sym}
use Rattle.latex2mathml_tex_grammar.specs.Units.{Command, Next}
use Rattle.latex2mathml_tex_commands.specs.Meanings.{meaning_of}
use Rattle.latex2mathml_tex_units.specs.{Left.put_back, Left.units_at, Left.units_behind, Taking.piece_of, Taking.unit_of}
use Rattle.latex2mathml_tex.specs.Steps.{left_of}
use Rattle.latex2mathml_tex.proofs.RowCommands.{command_begins, command_next, same_unit}
use Rattle.latex2mathml_tex.proofs.parse.Parser.begin_command.Goals as goal

pub returns-clause-holds : goal.returns-clause-holds
returns-clause-holds c = λ s h.
    let p = c.args.self.now in
    let i = c.advance.new.self in
    let u = c.in-Unit.unit in
    let asked = c.requires.next in
    let seen : left_of p ≡ Next (unit_of u) (units_behind p.input) = c.peek.ensures ∙ ap (λ n. put_back n (units_behind p.input)) c.in-Unit.is in
    let is : piece_of u.piece ≡ Command asked.name = same_unit _ _ _ _ (sym seen ∙ asked.next) ∙ asked.is in
    let there : left_of p ≡ Next (unit_of u) (units_at i) = seen ∙ ap (Next (unit_of u)) (sym c.advance.ensures.left) in
    c.meaning.ensures.holds s (command_begins p i u asked.name is s c.in-Some.context (meaning_of c.args.meaning.now) c.in-Some.ensures asked.means (sym c.begins_atoms.ensures ∙ c.if-begins_atoms.true) (command_next p i u asked.name is there) h)
