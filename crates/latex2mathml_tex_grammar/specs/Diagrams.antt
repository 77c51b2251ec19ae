-- Diagrams, as in `CD`: rows of objects with arrows between them, and rows of arrows up or down between these.
use Rattle.std.specs.Prelude.{ℕ, ◌%◌, ◌==◌, ◌||◌, ◌&&◌, pos, Bool, true, false, List, [], ◌∷◌, codes, Option, Some, None, if◌then◌else◌}
use Rattle.std.specs.{Str.byte, Str.bytes_eq}
use Rattle.latex2mathml_elements.specs.Attributes.{Above, Bigger, ScriptStyle, plain}
use Rattle.latex2mathml_elements.specs.Element.{Mrow, Mstyle, Munderover, Element, container, children, space, triple}
use Rattle.latex2mathml_tex_grammar.specs.Heights.{Tall}
use Rattle.latex2mathml_tex_grammar.specs.{Atoms.Plain, Atoms.atom, Fences.sized_delimiter, Meaning.OverLeft, Meaning.OverRight, Rows.is_empty, Rows.row_element}
use Rattle.latex2mathml_tex_grammar.specs.Makes.{Core, core, arrow_label, arrow_sign, in_box, on_side, text}
use Rattle.latex2mathml_tex_grammar.specs.Symbols.{Ordinary, InText}
use Rattle.latex2mathml_tex_grammar.specs.Units.{Piece, Character}

-- Arrows as an author writes them

-- where an arrow with labels points
pub data Direction : Type 0 where
  Rightwards : Direction
  Leftwards : Direction
  Upwards : Direction
  Downwards : Direction

-- what an at sign begins
pub data DiagramArrow : Type 0 where
  Labeled : Direction → DiagramArrow
  -- an equals sign as long as an arrow, and two bars as high as one
  LongEquals : DiagramArrow
  HighBars : DiagramArrow
  -- an empty place
  NoArrow : DiagramArrow

-- the sign of an arrow, which comes after the at sign, and again after each label
abbrev pub direction_sign : Direction → ℕ
direction_sign Rightwards = byte ">"
direction_sign Leftwards = byte "<"
direction_sign Upwards = byte "A"
direction_sign Downwards = byte "V"

-- whether an arrow has this sign
abbrev pub is_arrow_sign : ℕ → Bool
is_arrow_sign c = c == byte ">" || c == byte "<" || c == byte "A" || c == byte "V" || c == byte "=" || c == byte "|" || c == byte "."

-- the test for the sign of an arrow
abbrev pub sign_of_arrow : Piece → Option (List ℕ)
sign_of_arrow (Character c) = if is_arrow_sign c then Some (c ∷ []) else None
sign_of_arrow piece = None

-- the arrow of this sign
abbrev pub arrow_of : List ℕ → DiagramArrow
arrow_of sign =
    if bytes_eq sign (codes ">") then Labeled Rightwards
    else if bytes_eq sign (codes "<") then Labeled Leftwards
    else if bytes_eq sign (codes "A") then Labeled Upwards
    else if bytes_eq sign (codes "V") then Labeled Downwards
    else if bytes_eq sign (codes "=") then LongEquals
    else if bytes_eq sign (codes "|") then HighBars
    else NoArrow

-- Columns: every other one has objects. Between two of them is the arrow from one to the other.

-- whether an arrow goes up or down, and so is in the column of an object
abbrev pub is_upright : DiagramArrow → Bool
is_upright (Labeled Upwards) = true
is_upright (Labeled Downwards) = true
is_upright HighBars = true
is_upright arrow = false

-- whether an arrow is all of the cell in which it begins, after these cells and these elements of the cell
abbrev pub fills_cell : DiagramArrow → ℕ → List Element → Bool
fills_cell arrow cells cell = is_upright arrow && cells % 2 == 0 && is_empty cell

-- the cells before an arrow, where `filled` says that it is all of the cell in which it begins
abbrev pub before_arrow : (filled : Bool) → List Element → List Element → List Element
before_arrow true cell cells = cells
before_arrow false cell cells = row_element cell ∷ cells

-- Elements

-- an arrow by itself: one to a side is as long as its labels, and one up or down as high as `\Big`
abbrev pub bare_arrow : Direction → Element
bare_arrow Rightwards = arrow_sign 0x2192
bare_arrow Leftwards = arrow_sign 0x2190
bare_arrow Upwards = sized_delimiter InText Bigger Ordinary (text 0x2191)
bare_arrow Downwards = sized_delimiter InText Bigger Ordinary (text 0x2193)

-- the label below an arrow, which makes it at least three ems long
abbrev pub long_label : Element → Element
long_label x = arrow_label (on_side Above (record plain { accent = Some Above }) (space (pos 63)) x)

-- a label beside an arrow, in the size of scripts
abbrev pub small_label : Element → Element
small_label x = container Mstyle (record plain { style = Some ScriptStyle }) (children (x ∷ []))

-- the first label is above an arrow or at its left, and the second below it or at its right. Those at a side have no width.
abbrev pub first_label : Direction → Element → Element
first_label Upwards x = in_box OverLeft (small_label x)
first_label Downwards x = in_box OverLeft (small_label x)
first_label direction x = arrow_label x

abbrev pub second_label : Direction → Element → Element
second_label Upwards x = in_box OverRight (small_label x)
second_label Downwards x = in_box OverRight (small_label x)
second_label direction x = long_label x

-- an arrow with its labels
abbrev pub with_labels : Direction → Element → Element → Element → Element
with_labels Upwards arrow first second = container Mrow plain (children (first ∷ arrow ∷ second ∷ []))
with_labels Downwards arrow first second = container Mrow plain (children (first ∷ arrow ∷ second ∷ []))
with_labels direction arrow first second = triple Munderover plain arrow second first

-- an element of a diagram as an atom
abbrev pub in_diagram : Element → Core
in_diagram x = core (atom (Plain Ordinary) Tall x)

-- an arrow of which the bare arrow, the first label and then the second one are made
abbrev pub joined_arrow : Direction → Element → Element → Element → Core
joined_arrow direction arrow first second = in_diagram (with_labels direction arrow first (second_label direction second))

-- an arrow with these labels
abbrev pub labeled_arrow : Direction → Element → Element → Core
labeled_arrow direction first second = joined_arrow direction (bare_arrow direction) (first_label direction first) second

-- an equals sign as long as an arrow without labels
abbrev pub long_equals : Core
long_equals = in_diagram (triple Munderover plain (arrow_sign (byte "=")) (long_label (row_element [])) (arrow_label (row_element [])))

-- two bars as high as an arrow
abbrev pub high_bars : Core
high_bars = in_diagram (sized_delimiter InText Bigger Ordinary (text 0x2016))
