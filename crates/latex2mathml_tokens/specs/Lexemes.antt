-- The token that a lexeme represents: a text is its bytes, and a name its text.
use Rattle.std.specs.Prelude.{Bool, true, false}
use Rattle.latex2mathml_tokens.specs.Names.{function_text, limit_text, paren_text, size_text}
use Rattle.latex2mathml_tokens.specs.Tok.{Tok, Illegal, EOF, Begin, End, Ampersand, NewLine, Left, Right, Middle, Paren, LBrace, RBrace, Frac, Underscore, Circumflex, Binom, Overset, Underset, Overbrace, Underbrace, Sqrt, Integral, Lim, Space, Style, Big, Over, Under, Operator, BigOp, Letter, Number, Function, OperatorName, Slashed, Text, Command}
use Rattle.latex2mathml_tokens.specs.declared.lexeme.Lexeme.{Lexeme}
use Rattle.latex2mathml_tokens.specs.declared.lexeme.Lexeme.TheVariants as lexeme

abbrev pub lexeme_tok : Lexeme → Tok
lexeme_tok (lexeme.Illegal c) = Illegal c
lexeme_tok lexeme.EOF = EOF
lexeme_tok lexeme.Begin = Begin
lexeme_tok lexeme.End = End
lexeme_tok lexeme.Ampersand = Ampersand
lexeme_tok lexeme.NewLine = NewLine
lexeme_tok lexeme.Left = Left
lexeme_tok lexeme.Right = Right
lexeme_tok lexeme.Middle = Middle
lexeme_tok (lexeme.Paren kind) = Paren (paren_text kind)
lexeme_tok lexeme.LBrace = LBrace
lexeme_tok lexeme.RBrace = RBrace
lexeme_tok lexeme.Frac = Frac
lexeme_tok lexeme.Underscore = Underscore
lexeme_tok lexeme.Circumflex = Circumflex
lexeme_tok (lexeme.Binom display) = Binom display
lexeme_tok lexeme.Overset = Overset
lexeme_tok lexeme.Underset = Underset
lexeme_tok (lexeme.Overbrace c) = Overbrace c
lexeme_tok (lexeme.Underbrace c) = Underbrace c
lexeme_tok lexeme.Sqrt = Sqrt
lexeme_tok (lexeme.Integral c) = Integral c
lexeme_tok (lexeme.Lim name) = Lim (limit_text name)
lexeme_tok (lexeme.Space width) = Space width
lexeme_tok (lexeme.Style variant) = Style variant
lexeme_tok (lexeme.Big size) = Big (size_text size)
lexeme_tok (lexeme.Over c accent) = Over c accent
lexeme_tok (lexeme.Under c accent) = Under c accent
lexeme_tok (lexeme.Operator c) = Operator c
lexeme_tok (lexeme.BigOp c) = BigOp c
lexeme_tok (lexeme.Letter c variant) = Letter c variant
lexeme_tok (lexeme.Number text) = Number text.now
lexeme_tok (lexeme.Function name) = Function (function_text name)
lexeme_tok lexeme.OperatorName = OperatorName
lexeme_tok lexeme.Slashed = Slashed
lexeme_tok lexeme.Text = Text
lexeme_tok (lexeme.Command text) = Command text.now

-- the token has a text of its own, for which the code needs memory
abbrev pub owns_text : Tok → Bool
owns_text (Number text) = true
owns_text (Command text) = true
owns_text t = false
