use Rattle.std.proofs.Common.{refl}
use Rattle.latex2mathml_tex_grammar.specs.Makes
use Rattle.latex2mathml_tex_grammar.specs.Makes.{core}
use Rattle.latex2mathml_tex_commands.specs.Meanings.{class_of}
use Rattle.latex2mathml_tex.proofs.parse.symbols.put_other_sign.Goals as goal

pub returns : goal.returns
returns c = c.put_character.ensures (core (Makes.sign (class_of c.args.class) c.args.c)) (rw (c.new-sign.ensures, c.sign_kind.ensures, c.sign_attributes.ensures) refl)
