-- Tokens as values: a text is its bytes, a character its code point, and no value depends on its place in memory. Also the text
-- of a token, as refusals and marked errors name it.
use Rattle.std.specs.Prelude.{ℕ, ℤ, Bool, true, false, List, ◌++◌, Option, Some, None, codes, string_bytes}
use Rattle.std.specs.Fmt.{signed_decimal}
use Rattle.latex2mathml_tokens.specs.{Escape.quoted, Escape.quoted_char, declared.DisplayStyle.DisplayStyle, declared.token.Token.Token}
use Rattle.latex2mathml_tokens.specs.{declared.attribute.Accent.Accent, declared.attribute.Variant.Variant}
use Rattle.latex2mathml_tokens.specs.declared.token.Token.TheVariants as token
use Rattle.latex2mathml_tokens.specs.declared.DisplayStyle.TheVariants.{Block, Inline}
use Rattle.latex2mathml_tokens.specs.declared.attribute.Variant.TheVariants.{Normal, Italic, Bold, BoldItalic, DoubleStruck, BoldFraktur, Script, BoldScript, Fraktur, SansSerif, BoldSansSerif, SansSerifItalic, SansSerifBoldItalic, Monospace}
use Rattle.latex2mathml_tokens.specs.declared.attribute.Accent.TheVariants.{True, False}

pub data Tok : Type 0 where
  Illegal : ℕ → Tok
  EOF : Tok
  Begin : Tok
  End : Tok
  Ampersand : Tok
  NewLine : Tok
  Left : Tok
  Right : Tok
  Middle : Tok
  Paren : List ℕ → Tok
  LBrace : Tok
  RBrace : Tok
  Frac : Tok
  Underscore : Tok
  Circumflex : Tok
  Binom : Option DisplayStyle → Tok
  Overset : Tok
  Underset : Tok
  Overbrace : ℕ → Tok
  Underbrace : ℕ → Tok
  Sqrt : Tok
  Integral : ℕ → Tok
  Lim : List ℕ → Tok
  Space : ℤ → Tok
  Style : Variant → Tok
  Big : List ℕ → Tok
  Over : ℕ → Accent → Tok
  Under : ℕ → Accent → Tok
  Operator : ℕ → Tok
  BigOp : ℕ → Tok
  Letter : ℕ → Variant → Tok
  Number : List ℕ → Tok
  Function : List ℕ → Tok
  OperatorName : Tok
  Slashed : Tok
  Text : Tok
  Command : List ℕ → Tok
  deriving Discrete as Tok-discrete

-- the value of a token of the code
abbrev pub tok : Token → Tok
tok (token.Illegal c) = Illegal c
tok token.EOF = EOF
tok token.Begin = Begin
tok token.End = End
tok token.Ampersand = Ampersand
tok token.NewLine = NewLine
tok token.Left = Left
tok token.Right = Right
tok token.Middle = Middle
tok (token.Paren text) = Paren text.now
tok token.LBrace = LBrace
tok token.RBrace = RBrace
tok token.Frac = Frac
tok token.Underscore = Underscore
tok token.Circumflex = Circumflex
tok (token.Binom display) = Binom display
tok token.Overset = Overset
tok token.Underset = Underset
tok (token.Overbrace c) = Overbrace c
tok (token.Underbrace c) = Underbrace c
tok token.Sqrt = Sqrt
tok (token.Integral c) = Integral c
tok (token.Lim text) = Lim text.now
tok (token.Space width) = Space width
tok (token.Style variant) = Style variant
tok (token.Big text) = Big text.now
tok (token.Over c accent) = Over c accent
tok (token.Under c accent) = Under c accent
tok (token.Operator c) = Operator c
tok (token.BigOp c) = BigOp c
tok (token.Letter c variant) = Letter c variant
tok (token.Number text) = Number (string_bytes text)
tok (token.Function text) = Function text.now
tok token.OperatorName = OperatorName
tok token.Slashed = Slashed
tok token.Text = Text
tok (token.Command text) = Command (string_bytes text)

-- whether a digit that directly follows the token is a number of its own
abbrev pub takes_digit : Option Tok → Bool
takes_digit None = false
takes_digit (Some Sqrt) = true
takes_digit (Some Frac) = true
takes_digit (Some (Binom display)) = true
takes_digit (Some (Style variant)) = true
takes_digit (Some t) = false

abbrev pub variant_name : Variant → List ℕ
variant_name Normal = codes "Normal"
variant_name Italic = codes "Italic"
variant_name Bold = codes "Bold"
variant_name BoldItalic = codes "BoldItalic"
variant_name DoubleStruck = codes "DoubleStruck"
variant_name BoldFraktur = codes "BoldFraktur"
variant_name Script = codes "Script"
variant_name BoldScript = codes "BoldScript"
variant_name Fraktur = codes "Fraktur"
variant_name SansSerif = codes "SansSerif"
variant_name BoldSansSerif = codes "BoldSansSerif"
variant_name SansSerifItalic = codes "SansSerifItalic"
variant_name SansSerifBoldItalic = codes "SansSerifBoldItalic"
variant_name Monospace = codes "Monospace"

abbrev pub accent_name : Accent → List ℕ
accent_name True = codes "True"
accent_name False = codes "False"

abbrev pub binom_name : Option DisplayStyle → List ℕ
binom_name None = codes "None"
binom_name (Some Block) = codes "Some(Block)"
binom_name (Some Inline) = codes "Some(Inline)"

abbrev pub token_text : Tok → List ℕ
token_text (Illegal c) = codes "Illegal(" ++ (quoted_char c ++ codes ")")
token_text EOF = codes "EOF"
token_text Begin = codes "Begin"
token_text End = codes "End"
token_text Ampersand = codes "Ampersand"
token_text NewLine = codes "NewLine"
token_text Left = codes "Left"
token_text Right = codes "Right"
token_text Middle = codes "Middle"
token_text (Paren text) = codes "Paren(" ++ (quoted text ++ codes ")")
token_text LBrace = codes "LBrace"
token_text RBrace = codes "RBrace"
token_text Frac = codes "Frac"
token_text Underscore = codes "Underscore"
token_text Circumflex = codes "Circumflex"
token_text (Binom display) = codes "Binom(" ++ (binom_name display ++ codes ")")
token_text Overset = codes "Overset"
token_text Underset = codes "Underset"
token_text (Overbrace c) = codes "Overbrace(" ++ (quoted_char c ++ codes ")")
token_text (Underbrace c) = codes "Underbrace(" ++ (quoted_char c ++ codes ")")
token_text Sqrt = codes "Sqrt"
token_text (Integral c) = codes "Integral(" ++ (quoted_char c ++ codes ")")
token_text (Lim text) = codes "Lim(" ++ (quoted text ++ codes ")")
token_text (Space width) = codes "Space(" ++ (signed_decimal width ++ codes ")")
token_text (Style variant) = codes "Style(" ++ (variant_name variant ++ codes ")")
token_text (Big size) = codes "Big(" ++ (quoted size ++ codes ")")
token_text (Over c accent) = codes "Over(" ++ (quoted_char c ++ (codes ", " ++ (accent_name accent ++ codes ")")))
token_text (Under c accent) = codes "Under(" ++ (quoted_char c ++ (codes ", " ++ (accent_name accent ++ codes ")")))
token_text (Operator c) = codes "Operator(" ++ (quoted_char c ++ codes ")")
token_text (BigOp c) = codes "BigOp(" ++ (quoted_char c ++ codes ")")
token_text (Letter c variant) = codes "Letter(" ++ (quoted_char c ++ (codes ", " ++ (variant_name variant ++ codes ")")))
token_text (Number digits) = codes "Number(" ++ (quoted digits ++ codes ")")
token_text (Function name) = codes "Function(" ++ (quoted name ++ codes ")")
token_text OperatorName = codes "OperatorName"
token_text Slashed = codes "Slashed"
token_text Text = codes "Text"
token_text (Command name) = codes "Command(" ++ (quoted name ++ codes ")")
