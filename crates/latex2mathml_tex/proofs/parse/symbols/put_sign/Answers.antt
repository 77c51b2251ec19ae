use Rattle.std.proofs.Common.{refl}
use Rattle.latex2mathml_tex_grammar.specs.Makes
use Rattle.latex2mathml_tex_grammar.specs.Makes.{core}
use Rattle.latex2mathml_tex_commands.specs.Meanings.{class_of}
use Rattle.latex2mathml_tex.proofs.parse.symbols.put_sign.Goals as goal

pub returns : goal.returns
returns c =
    let no_attributes = c.is_plain.ensures c.if-not-is_plain.false in
    c.put_character.ensures (core (Makes.sign (class_of c.args.class) c.args.c)) (rw (c.new-sign.ensures, c.sign_kind.ensures, c.plain.ensures, no_attributes) refl)
