use Rattle.std.proofs.Common.{◌≡◌, ◌∙◌, ap, option_map, refl, sym}
use Rattle.latex2mathml_tex_grammar.specs.Makes
use Rattle.latex2mathml_tex_grammar.specs.Units.{Command, Next}
use Rattle.latex2mathml_tex_commands.specs.Meanings.{alphabet_of, meaning_of, style_of, symbol_of}
use Rattle.latex2mathml_tex_units.specs.{Left.units_at, Taking.piece_of, Taking.unit_of}
use Rattle.latex2mathml_tex.specs.Steps.{left_of}
use Rattle.latex2mathml_tex.proofs.{RowCharacters.one_less, RowCharacters.symbol_put, RowCommands.command_begins, RowCommands.command_next, RuleSteps.begun}
use Rattle.latex2mathml_tex.proofs.parse.Parser.command_in_row.Goals as goal

pub returns : goal.returns
returns c =
    let p = c.args.self.now in
    let k = c.args.context in
    let i = c.advance.new.self in
    let (u, there, is) = c.requires.next in
    let name = c.args.name.now in
    let named : piece_of u.piece ≡ Command name = ap piece_of is in
    let next : left_of p ≡ Next (unit_of u) (units_at i) = there ∙ ap (Next (unit_of u)) (sym c.advance.ensures.left) in
    let drawn = Makes.symbol (style_of k.style) (option_map alphabet_of k.alphabet) (symbol_of c.in-Shows.symbol) in
    symbol_put p i c.put_symbol.new.builder k c.requires.row (one_less p i u there c.advance.ensures.left) c.in_ok-sign.sign drawn c.in_ok-sign.ensures
    (λ s h. begun (rw c.in-Shows.is at (command_begins p i u name named s k (meaning_of c.in-Some.meaning.now) c.requires.row c.in-Some.ensures (rw c.in-Shows.is refl) (command_next p i u name named next) h)))
    c.requires.ready

pub returns-in_default-meaning : goal.returns-in_default-meaning
returns-in_default-meaning c =
    let (u, there, is) = c.requires.next in
    (refl, record { unit = u; name = c.args.name.now; next = there; is = ap piece_of is; means = c.in-Some.ensures })
