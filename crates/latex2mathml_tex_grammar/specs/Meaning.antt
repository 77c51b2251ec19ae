-- What the name of a command means.
use Rattle.std.specs.Prelude.{ℕ, ℤ, Bool, true, false, List, ◌∷◌, ◌++◌, Option, Some}
use Rattle.latex2mathml_elements.specs.Colors.{Color}
use Rattle.latex2mathml_elements.specs.Attributes.{Side, Stretch, Size}
use Rattle.latex2mathml_tex_grammar.specs.Symbols.{Class, Style, Alphabet, TextSize, Symbol}

-- whether a fraction has its bar, and if it has none, what is around it: parentheses, braces, brackets or nothing
pub data FractionRule : Type 0 where
  Bar : FractionRule
  NoBar : FractionRule
  Braced : FractionRule
  Bracketed : FractionRule
  Bare : FractionRule

-- where the limits of an operator are: next to it; above and below it in display style; above and below it, but in text the
-- browser moves them next to it; always above and below it
pub data LimitPlace : Type 0 where
  Beside : LimitPlace
  ByStyle : LimitPlace
  Movable : LimitPlace
  Stacked : LimitPlace

-- what a command changes up to the end of its group
pub data Change : Type 0 where
  -- letters and digits are in an alphabet
  ToAlphabet : Alphabet → Change
  -- everything is in a style
  ToStyle : Style → Change
  -- letters are of a size
  ToSize : TextSize → Change
  -- everything is the lower part of a fraction, and what precedes it is the upper part
  Divides : FractionRule → Change
  -- everything is in the color that comes next
  ToColor : Change

-- what becomes of the box of an operand
pub data Box : Type 0 where
  -- it is invisible, and keeps its whole box; or only its width; or only its height and depth
  Phantom : Box
  PhantomWidth : Box
  PhantomHeight : Box
  -- it has no height and no depth; or no height; or no depth
  Smashed : Box
  WithoutHeight : Box
  WithoutDepth : Box
  -- it has no width, and reaches over what is to its right, to its left, or on both sides
  OverRight : Box
  OverLeft : Box
  OverBoth : Box
  -- a line around it
  Frame : Box
  -- a line through it, from its lower left, from its upper left, or both
  StrikeUp : Box
  StrikeDown : Box
  StrikeTwice : Box
  -- it is raised above its place by this many thousandths of an em
  Raised : ℤ → Box
  -- it is in this color, or on a background of this color
  Colored : Color → Box
  OnColor : Color → Box

-- what a command means
pub data Meaning : Type 0 where
  -- a character
  Shows : Symbol → Meaning
  -- the name of a function, as its bytes
  FunctionName : LimitPlace → List ℕ → Meaning
  -- dots, in the middle of the line before an operator or a relation, otherwise on the line
  Dots : Meaning
  -- dots in the middle of the line
  CenteredDots : Meaning
  -- the dots of a column, with space above them
  VerticalDots : Meaning
  -- a long arrow with a thick space at each side
  Implication : ℕ → Meaning
  -- a space, in eighteenths of an em
  Spacing : ℤ → Meaning
  -- a space as wide as the length that comes next, or that comes next in braces
  Skip : Meaning
  SkipInBraces : Meaning
  -- its operand in a box; or in a box without height or depth
  Boxed : Box → Meaning
  Smash : Meaning
  -- its operand, raised by the length that comes next in braces
  Raise : Meaning
  -- its operand in the color that comes next, or on a background of that color
  InColor : Meaning
  Highlight : Meaning
  -- a black rectangle of two lengths in braces; a length in brackets before them raises it
  Rectangle : Meaning
  -- an arrow as long as what is above it, and as what is below it, which is given in brackets
  Arrow : ℕ → Meaning
  -- its operand in an alphabet
  Styled : Alphabet → Meaning
  -- words, which may have an alphabet
  Words : Option Alphabet → Meaning
  -- a fraction, which may have a style of its own
  Fraction : FractionRule → Option Style → Meaning
  -- a fraction in display style, whose numerator may be pushed to a side
  ContinuedFraction : Meaning
  -- a fraction whose delimiters, line and style the author gives
  GeneralFraction : Meaning
  Root : Meaning
  -- a mark on one operand
  Accent : Side → ℕ → Stretch → Meaning
  -- a brace, which takes scripts as labels
  Brace : Side → ℕ → Meaning
  -- the first of four operands in display style, the second in text style, and the third in scripts
  Choice : Meaning
  -- a first operand above or below the second
  Stack : Side → Meaning
  -- a first operand above the second; together they are a relation
  StackedRelation : Meaning
  OperatorName : Meaning
  -- a stroke through the relation that follows, or through an operand
  Negation : Meaning
  Slash : Meaning
  -- a delimiter of this size and class
  Sized : Size → Class → Meaning
  -- delimiters around a formula and within it
  Left : Meaning
  Middle : Meaning
  Right : Meaning
  -- the limits of the operator before it
  Limits : Meaning
  NoLimits : Meaning
  -- its operand as an atom of this class
  Classed : Class → Meaning
  -- a change of what follows it in its group
  Changes : Change → Meaning
  -- a table, and its end
  BeginTable : Meaning
  EndTable : Meaning
  -- what ends a row of a table
  LineBreak : Meaning
  -- rows in braces
  Substack : Meaning

-- whether a command with this meaning is followed by words
abbrev pub takes_words : Option Meaning → Bool
takes_words (Some (Words alphabet)) = true
takes_words meaning = false

-- two words with a thin space between them, U+2009
abbrev pub words_apart : List ℕ → List ℕ → List ℕ
words_apart first second = first ++ (0xE2 ∷ 0x80 ∷ 0x89 ∷ second)
