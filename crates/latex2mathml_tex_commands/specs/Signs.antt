-- The code's tables of characters, as the definitions have them.
use Rattle.std.specs.Prelude.{ℕ, List, Option, map}
use Rattle.std.specs.List.{range_with_len}
use Rattle.latex2mathml_tex_grammar.specs.{Commands.symbol_of, Symbols.Symbol}
use Rattle.latex2mathml_tex_commands.specs.declared.signs.SignEntry.{SignEntry}
use Rattle.latex2mathml_tex_commands.specs.Meanings as meanings

abbrev pub entry_of : SignEntry → ℕ × Symbol
entry_of entry = (entry.character, meanings.symbol_of entry.symbol)

-- what each ASCII character is
unfoldable pub ascii_symbols : List (Option Symbol)
ascii_symbols = map symbol_of (range_with_len 0 128)
