use Rattle.std.proofs.Common.{option_map}
use Rattle.latex2mathml_tex_grammar.specs.Makes
use Rattle.latex2mathml_tex_grammar.specs.Makes.{core}
use Rattle.latex2mathml_tex_commands.specs.Meanings.{alphabet_of}
use Rattle.latex2mathml_tex.proofs.Putting.{put_held}
use Rattle.latex2mathml_tex.proofs.parse.Parser.letter.Goals as goal

pub returns-clause-holds : goal.returns-clause-holds
returns-clause-holds c = λ s g. put_held s c.args.self.now c.put_letter.new.builder c.in_ok-put_letter.field-0 (core (Makes.letter (option_map alphabet_of c.args.alphabet) c.args.c)) c.in_ok-put_letter.ensures g
