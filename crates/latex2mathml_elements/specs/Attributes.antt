-- The attributes of an element. Each has a field of its own, so none occurs twice.
use Rattle.std.specs.Prelude.{ℕ, ℤ, pos, Bool, false, Option, Some, None}
use Rattle.latex2mathml_elements.specs.Colors.{Color}

-- the side of its base on which a mark is
pub data Side : Type 0 where
  Above : Side
  Below : Side

-- the position of an operator among other elements
pub data Form : Type 0 where
  Prefix : Form
  Infix : Form
  Postfix : Form

-- whether an operator grows as high or as wide as what is next to it
pub data Stretch : Type 0 where
  Stretching : Stretch
  Rigid : Stretch

-- the space at the sides of an operator
pub data Space : Type 0 where
  NoSpace : Space
  -- a twentieth of an em on both sides
  Narrow : Space
  -- TeX's medium space on both sides, four eighteenths of an em
  Medium : Space
  -- TeX's thick space on both sides, five eighteenths of an em
  Thick : Space
  -- no space before it; the browser decides what follows it
  NoSpaceBefore : Space
  -- no space before it, and the width of a null delimiter of TeX after it, twelve hundredths of an em
  NullDelimiterAfter : Space
  -- no space before it, and a thin space after it, three eighteenths of an em
  ThinAfter : Space
  -- no space before it, and a thick space after it
  ThickAfter : Space
  -- no space after it; the browser decides what precedes it
  NoSpaceAfter : Space
  -- a thick space before it, and no space after it
  ThickBefore : Space

-- the height of a delimiter
pub data Size : Type 0 where
  Big : Size
  Bigger : Size
  VeryBig : Size
  Biggest : Size

-- the style of a formula: displayed, in a line of text, or as small as a script
pub data MathStyle : Type 0 where
  DisplayStyle : MathStyle
  TextStyle : MathStyle
  ScriptStyle : MathStyle

-- a change to the box around elements, or to what is in it
pub data Boxing : Type 0 where
  -- it has no width; no height above the line and no depth below it; no height; no depth
  NoWidth : Boxing
  Flat : Boxing
  NoHeight : Boxing
  NoDepth : Boxing
  -- it is moved to the left, by its width or by half of it
  ByItsWidth : Boxing
  ByHalfItsWidth : Boxing
  -- it has a line around it
  Framed : Boxing
  -- lines go through it: from its lower left, from its upper left, or both
  StruckUp : Boxing
  StruckDown : Boxing
  StruckTwice : Boxing
  -- TeX's null delimiters are at its sides, which are space
  NullDelimiters : Boxing
  -- it is the label of an arrow, with the space by which the arrow is longer at both sides
  ArrowLabel : Boxing
  -- a sign that stretches is drawn where it goes beyond its box, too
  Unclipped : Boxing
  -- a text is in a font whose characters are all of one width
  Monospaced : Boxing
  -- a table in which the lines of all cells of a row are one line
  JoinedLines : Boxing
  -- it is at most this wide, in thousandths of an em
  AtMost : ℕ → Boxing

-- the attributes of an element; one that is `None` or false is not written
pub record Attributes : Type 0 where
  -- a single letter that is not italic
  pub upright : Bool
  pub form : Option Form
  pub stretch : Option Stretch
  -- a delimiter within others
  pub fence : Bool
  -- a sign of punctuation
  pub separator : Bool
  pub size : Option Size
  -- `None` leaves the space to the browser
  pub space : Option Space
  -- limits stay above and below in every style
  pub limits_stay : Bool
  -- a sign that is no larger in the style of a block
  pub keeps_size : Bool
  pub accent : Option Side
  -- a fraction without its line
  pub no_line : Bool
  -- the style of what is in it, whatever the style around it is
  pub style : Option MathStyle
  pub boxing : Option Boxing
  -- how far a box is raised above its place, in thousandths of an em
  pub raised : ℤ
  -- how large letters are, in thousandths of those around it
  pub scale : Option ℕ
  -- the color of what is in it, and of its background
  pub color : Option Color
  pub background : Option Color

-- an element without attributes
abbrev pub plain : Attributes
plain = record { upright = false; form = None; stretch = None; fence = false; separator = false; size = None; space = None; limits_stay = false; keeps_size = false; accent = None; no_line = false; style = None; boxing = None; raised = pos 0; scale = None; color = None; background = None }

-- an element with this style of its own, if any
abbrev pub styled : Option MathStyle → Attributes
styled own = record plain { style = own }

-- an element with this change to its box
abbrev pub boxed : Boxing → Attributes
boxed boxing = record plain { boxing = Some boxing }
