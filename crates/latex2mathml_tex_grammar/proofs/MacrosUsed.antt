-- The macros that pieces use.
use Rattle.std.proofs.Common.{◌≡◌, ℕ, List, Some}
use Rattle.latex2mathml_tex_grammar.specs.{Macros.Macro, Macros.Table, Macros.macro_of}
use Rattle.latex2mathml_tex_grammar.specs.Units.{Piece, Space, Open, Close, Command, Character}

-- what holds of each macro of a table holds of the one that a piece uses
pub of_used_macro : (P : Macro → Type 0) (piece : Piece) (table : Table) → ((name : List ℕ) (m : Macro) → table name ≡ Some m → P m) → (m : Macro) → macro_of table piece ≡ Some m → P m
of_used_macro P (Command name) table t m e = t name m e
of_used_macro P Space table t m e = cc
of_used_macro P Open table t m e = cc
of_used_macro P Close table t m e = cc
of_used_macro P (Character c) table t m e = cc
