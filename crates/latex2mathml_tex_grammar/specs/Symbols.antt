-- The words of TeX's formulas: classes, styles, alphabets, and what one character is.
use Rattle.std.specs.Prelude.{ℕ, ◌*◌, ◌/◌, ◌==◌, Bool, true, false, Option, Some, None, if◌then◌else◌}

-- the class of an atom, which decides the space next to it
pub data Class : Type 0 where
  Ordinary : Class
  Operator : Class
  Binary : Class
  Relation : Class
  Opening : Class
  Closing : Class
  Punctuation : Class
  Inner : Class

-- the style of a formula: in a block of its own, in a line of text, or in a script
pub data Style : Type 0 where
  InDisplay : Style
  InText : Style
  InScript : Style

-- the style of the parts of a fraction
abbrev pub smaller : Style → Style
smaller InDisplay = InText
smaller InText = InScript
smaller InScript = InScript

-- how large letters are, by TeX's names; the usual size is that of the text around the formula
pub data TextSize : Type 0 where
  Tiny : TextSize
  SixPoint : TextSize
  ScriptSize : TextSize
  FootnoteSize : TextSize
  Small : TextSize
  NormalSize : TextSize
  Large : TextSize
  VeryLarge : TextSize
  ExtraLarge : TextSize
  Huge : TextSize
  VeryHuge : TextSize

-- a size, in thousandths of the usual one
abbrev pub thousandths : TextSize → ℕ
thousandths Tiny = 500
thousandths SixPoint = 600
thousandths ScriptSize = 700
thousandths FootnoteSize = 800
thousandths Small = 900
thousandths NormalSize = 1000
thousandths Large = 1200
thousandths VeryLarge = 1440
thousandths ExtraLarge = 1728
thousandths Huge = 2074
thousandths VeryHuge = 2488

-- a number of thousandths, unless it is one whole
abbrev pub unless_whole : ℕ → Option ℕ
unless_whole n = if n == 1000 then None else Some n

-- how many thousandths of the second size the first one is, if they differ
abbrev pub scale_between : TextSize → TextSize → Option ℕ
scale_between size other = unless_whole (1000 * thousandths size / thousandths other)

-- whether letters in a style are smaller than their size says
abbrev pub is_script : Style → Bool
is_script InScript = true
is_script style = false

-- the style in which letters have their size, where they were in this style
abbrev pub at_full_size : Style → Style
at_full_size InScript = InText
at_full_size style = style

-- an alphabet for letters and digits
pub data Alphabet : Type 0 where
  Upright : Alphabet
  -- upright as well, in the name of an operator
  Named : Alphabet
  Italic : Alphabet
  Bold : Alphabet
  BoldItalic : Alphabet
  DoubleStruck : Alphabet
  Fraktur : Alphabet
  Calligraphic : Alphabet
  SansSerif : Alphabet
  Monospace : Alphabet

-- what a character is
pub data Symbol : Type 0 where
  -- a letter that is italic by itself
  Letter : ℕ → Symbol
  -- a letter that is upright by itself
  UprightLetter : ℕ → Symbol
  -- a sign of this class
  Sign : Class → ℕ → Symbol
  -- an operator whose limits the browser moves, such as a sum
  BigOperator : ℕ → Symbol
  -- an operator whose limits are next to it
  Integral : ℕ → Symbol
