use Rattle.std.proofs.Common.{refl}
use Rattle.latex2mathml_tex_grammar.specs.{Commands.symbol_of, Signs.sign_entries}
use Rattle.latex2mathml_tex_commands.specs.Signs.{ascii_symbols}
use Rattle.latex2mathml_tex_commands.proofs.signs.ascii.symbols.Goals as goal

pub returns : goal.returns
unfolding ascii_symbols symbol_of sign_entries
returns c = refl
