-- The commands, in the order of their names' bytes, and the characters that are signs.
use Rattle.std.specs.Prelude.{ℕ, ◌==◌, List, [], ◌∷◌, ◌++◌, Option, Some, None, if◌then◌else◌}
use Rattle.std.specs.Str.{bytes_eq}
use Rattle.latex2mathml_tex_grammar.specs.{CommandsUpToL.commands_up_to_l, CommandsFromM.commands_from_m, Meaning.Meaning, Signs.sign_entries, Symbols.Symbol}

-- the whole table of commands, in the order of bytes
unfoldable pub command_entries : List (List ℕ × Meaning)
command_entries = commands_up_to_l ++ commands_from_m

-- what the entry with this name means, where there is one
abbrev pub entry_meaning : List (List ℕ × Meaning) → List ℕ → Option Meaning
entry_meaning [] name = None
entry_meaning (entry ∷ entries) name = if bytes_eq entry.0 name then Some entry.1 else entry_meaning entries name

-- what a command means
unfoldable pub meaning_of : List ℕ → Option Meaning
meaning_of name = entry_meaning command_entries name

-- the symbol of the entry with this character, where there is one
abbrev pub entry_symbol : List (ℕ × Symbol) → ℕ → Option Symbol
entry_symbol [] c = None
entry_symbol (entry ∷ entries) c = if entry.0 == c then Some entry.1 else entry_symbol entries c

-- the symbol that a character is, where it is one
unfoldable pub symbol_of : ℕ → Option Symbol
symbol_of c = entry_symbol sign_entries c
