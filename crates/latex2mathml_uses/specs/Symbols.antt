-- The character of a token.
use Rattle.std.specs.Prelude.{ℕ, Option, Some, None}
use Rattle.latex2mathml.specs.Tok.{Tok, Letter, Operator}

-- the character of a letter or an operator
abbrev pub symbol_of : Tok → Option ℕ
symbol_of (Letter c variant) = Some c
symbol_of (Operator c) = Some c
symbol_of t = None
