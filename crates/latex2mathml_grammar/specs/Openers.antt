-- The tokens for which the parser may open a frame.
use Rattle.std.specs.Prelude.{ℕ, ◌≤◌, List, None, sum_by}
use Rattle.latex2mathml_grammar.specs.Spelling.{HasTokens}
use Rattle.latex2mathml_tokens.specs.Tok.{Tok, Number, Letter, Operator, Paren}

-- 1 where a frame may be opened for the token: it is not a number, letter, operator or parenthesis
abbrev pub opens : Tok → ℕ
opens (Number digits) = 0
opens (Letter c variant) = 0
opens (Operator c) = 0
opens (Paren text) = 0
opens t = 1

-- the number of tokens for which a frame may be opened
abbrev pub openers : List Tok → ℕ
openers ts = sum_by opens ts

-- While `taken` tokens of the text were taken, n is the greatest number of frames that were open at once. It is no more than the
-- number of tokens that were taken, and no more than the number of tokens of the text that may open a frame.
abbrev pub IsFrameCount : List ℕ → ℕ → ℕ → Type 0
IsFrameCount text taken n = (n ≤ taken) × ((ts : List Tok) × HasTokens None text ts × (n ≤ openers ts))
