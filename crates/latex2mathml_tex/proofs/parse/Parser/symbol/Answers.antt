use Rattle.latex2mathml_tex_grammar.specs.Makes
use Rattle.latex2mathml_tex_commands.specs.Meanings.{symbol_of}
use Rattle.latex2mathml_tex_atoms.specs.Models.{context_of}
use Rattle.latex2mathml_tex.proofs.Putting.{put_held}
use Rattle.latex2mathml_tex.proofs.parse.Parser.symbol.Goals as goal

pub returns-clause-holds : goal.returns-clause-holds
returns-clause-holds c = λ s g. put_held s c.args.self.now c.put_symbol.new.builder c.in_ok-put_symbol.field-0 (Makes.symbol (context_of c.args.context).style (context_of c.args.context).alphabet (symbol_of c.args.symbol)) c.in_ok-put_symbol.ensures g
