-- Numbers, digit by digit.
use Rattle.std.specs.Prelude.{ℕ, [], ◌∷◌, Option, Some, None}
use Rattle.std.specs.Str.{byte}
use Rattle.latex2mathml_tex_grammar.specs.{Alphabets.in_alphabet, Commands.symbol_of, Symbols.Alphabet}
use Rattle.latex2mathml_tex_grammar.specs.Rules.{Context, Rule, a_digit, a_symbol, decimal, takes_if}

-- a digit or a point, as it is or in an alphabet
abbrev pub digit_in : Option Alphabet → ℕ → ℕ
digit_in None c = c
digit_in (Some a) c = in_alphabet a c

-- the rule of a point
abbrev pub after_point : Context → Rule
after_point c = takes_if (a_digit ∷ []) (λ digit. decimal c (byte "." ∷ digit)) (a_symbol c (byte ".") (symbol_of (byte ".")))
