-- Tokens that can be read.
use Rattle.std.specs.Prelude.{List}
use Rattle.latex2mathml.specs.{Grammar.ReadsFormula, Tok.Tok, Tree.Tree}

-- the tokens have a reading
abbrev pub IsRead : List Tok → Type 0
IsRead ts = (xs : List Tree) × ReadsFormula ts xs
