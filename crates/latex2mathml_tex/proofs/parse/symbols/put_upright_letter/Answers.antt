use Rattle.std.proofs.Common.{option_map, refl}
use Rattle.latex2mathml_tex_grammar.specs.Makes
use Rattle.latex2mathml_tex_grammar.specs.Makes.{core}
use Rattle.latex2mathml_tex_commands.specs.Meanings.{alphabet_of}
use Rattle.latex2mathml_tex.proofs.parse.symbols.put_upright_letter.Goals as goal

pub returns-in-None : goal.returns-in-None
returns-in-None c = c.put_character.ensures (core (Makes.upright_letter (option_map alphabet_of c.args.alphabet) c.args.c)) (rw (c.upright.ensures, c.new-letter.ensures, c.in-None.is) refl)
