-- What a piece is.
use Rattle.std.specs.Prelude.{ℕ, Bool, false, ◌==◌, List}
use Rattle.std.specs.Str.{bytes_eq}
use Rattle.latex2mathml_tex_grammar.specs.Units.{Piece, Open, Close, Command, Character}

-- the brace that a piece is
pub data Brace : Type 0 where
  Opening : Brace
  Closing : Brace
  NoBrace : Brace

-- which brace a unit is, if it is one
abbrev pub brace_of : Piece → Brace
brace_of Open = Opening
brace_of Close = Closing
brace_of piece = NoBrace

-- whether a unit is this character
abbrev pub is_character : ℕ → Piece → Bool
is_character c (Character d) = d == c
is_character c piece = false

-- whether a unit is the command with this name
abbrev pub is_command : List ℕ → Piece → Bool
is_command name (Command other) = bytes_eq name other
is_command name piece = false
