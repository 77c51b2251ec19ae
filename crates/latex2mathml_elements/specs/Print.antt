-- How elements are written.
use Rattle.std.specs.Prelude.{ℕ, pos, Bool, true, false, ◌||◌, List, [], ◌++◌, Option, Some, None, codes}
use Rattle.latex2mathml_elements.specs.Attributes.{Attributes, Side, Above, Below, Form, Prefix, Infix, Postfix, Stretch, Stretching, Rigid, Space, NoSpace, Narrow, Medium, Thick, NoSpaceBefore, NullDelimiterAfter, ThinAfter, ThickAfter, NoSpaceAfter, ThickBefore, Size, Big, Bigger, VeryBig, Biggest, MathStyle, DisplayStyle, TextStyle, ScriptStyle, Boxing, NoWidth, Flat, NoHeight, NoDepth, ByItsWidth, ByHalfItsWidth, Framed, StruckUp, StruckDown, StruckTwice, NullDelimiters, ArrowLabel, Unclipped, Monospaced, JoinedLines, AtMost}
use Rattle.latex2mathml_elements.specs.Columns.{Alignment, LeftAligned, RightAligned, Continued, Density, Dense, Opened, Spacing, Unspaced, SpaceBefore, SpaceAround, Column}
use Rattle.latex2mathml_elements.specs.Element.{Token, Mi, Mn, Mo, Mtext, Container, Mrow, Msqrt, Mstyle, Mpadded, Mphantom, Pair, Mfrac, Mroot, Msub, Msup, Munder, Mover, Triple, Msubsup, Munderover, Element, Elements, Rows, Cells, token, space, rectangle, container, pair, triple, table, none, more, one_row, more_rows, one_cell, more_cells}
use Rattle.latex2mathml_elements.specs.Lines.{Line, NoLine, OneLine, TwoLines, Dashes, RowLines, is_lined}
use Rattle.latex2mathml_elements.specs.{Colors.color_text, Extents.extent_text, Extents.length_if_any, Extents.length_text, Extents.width_start}
use Rattle.latex2mathml_tokens.specs.Escape.{content}
use Rattle.latex2mathml_trees.specs.Width.{thousandths_text, width_text}

-- The names of elements

-- the name of a token element
abbrev pub token_name : Token → List ℕ
token_name Mi = codes "mi"
token_name Mn = codes "mn"
token_name Mo = codes "mo"
token_name Mtext = codes "mtext"

-- the name of an element around others
abbrev pub container_name : Container → List ℕ
container_name Mrow = codes "mrow"
container_name Msqrt = codes "msqrt"
container_name Mstyle = codes "mstyle"
container_name Mpadded = codes "mpadded"
container_name Mphantom = codes "mphantom"

-- the name of an element of two
abbrev pub pair_name : Pair → List ℕ
pair_name Mfrac = codes "mfrac"
pair_name Mroot = codes "mroot"
pair_name Msub = codes "msub"
pair_name Msup = codes "msup"
pair_name Munder = codes "munder"
pair_name Mover = codes "mover"

-- the name of an element of three
abbrev pub triple_name : Triple → List ℕ
triple_name Msubsup = codes "msubsup"
triple_name Munderover = codes "munderover"

-- Attributes

-- this text, if so
abbrev pub if_so : Bool → List ℕ → List ℕ
if_so true text = text
if_so false text = []

-- the attribute for the form of an operator
abbrev pub form_text : Option Form → List ℕ
form_text None = []
form_text (Some Prefix) = codes " form=\"prefix\""
form_text (Some Infix) = codes " form=\"infix\""
form_text (Some Postfix) = codes " form=\"postfix\""

-- the attribute for stretching
abbrev pub stretch_text : Option Stretch → List ℕ
stretch_text None = []
stretch_text (Some Stretching) = codes " stretchy=\"true\""
stretch_text (Some Rigid) = codes " stretchy=\"false\""

-- a delimiter with a size of its own is as high above the axis as it is deep below
abbrev pub size_text : Option Size → List ℕ
size_text None = []
size_text (Some Big) = codes " symmetric=\"true\" minsize=\"1.2em\" maxsize=\"1.2em\""
size_text (Some Bigger) = codes " symmetric=\"true\" minsize=\"1.623em\" maxsize=\"1.623em\""
size_text (Some VeryBig) = codes " symmetric=\"true\" minsize=\"2.047em\" maxsize=\"2.047em\""
size_text (Some Biggest) = codes " symmetric=\"true\" minsize=\"2.47em\" maxsize=\"2.47em\""

-- the attributes for the space at the sides
abbrev pub space_text : Option Space → List ℕ
space_text None = []
space_text (Some NoSpace) = codes " lspace=\"0\" rspace=\"0\""
space_text (Some Narrow) = codes " lspace=\"0.05em\" rspace=\"0.05em\""
space_text (Some Medium) = codes " lspace=\"0.222em\" rspace=\"0.222em\""
space_text (Some Thick) = codes " lspace=\"0.278em\" rspace=\"0.278em\""
space_text (Some NoSpaceBefore) = codes " lspace=\"0\""
space_text (Some NullDelimiterAfter) = codes " lspace=\"0\" rspace=\"0.12em\""
space_text (Some ThinAfter) = codes " lspace=\"0\" rspace=\"0.167em\""
space_text (Some ThickAfter) = codes " lspace=\"0\" rspace=\"0.278em\""
space_text (Some NoSpaceAfter) = codes " rspace=\"0\""
space_text (Some ThickBefore) = codes " lspace=\"0.278em\" rspace=\"0\""

-- the attribute for an accent
abbrev pub accent_text : Option Side → List ℕ
accent_text None = []
accent_text (Some Above) = codes " accent=\"true\""
accent_text (Some Below) = codes " accentunder=\"true\""

-- the attributes for a style
abbrev pub style_text : Option MathStyle → List ℕ
style_text None = []
style_text (Some DisplayStyle) = codes " displaystyle=\"true\" scriptlevel=\"0\""
style_text (Some TextStyle) = codes " displaystyle=\"false\" scriptlevel=\"0\""
style_text (Some ScriptStyle) = codes " displaystyle=\"false\" scriptlevel=\"1\""

-- lines through a box, as a background that its foreground crosses: a line from corner to corner, 0.08 em wide
abbrev pub line_up : List ℕ
line_up = codes "linear-gradient(to top left, transparent calc(50% - 0.04em), currentcolor, transparent calc(50% + 0.04em))"

-- the picture of a line from one corner to the other
abbrev pub line_down : List ℕ
line_down = codes "linear-gradient(to top right, transparent calc(50% - 0.04em), currentcolor, transparent calc(50% + 0.04em))"

-- What MathML Core has no attribute for is written in the language of style sheets. A null delimiter is 0.12 em wide, and browsers
-- leave a pixel of that at the sides of a fraction themselves. An arrow is longer than its label by 7mu at both sides. Some browsers
-- draw what goes beyond a box only as far as the shadow of the box. What is wider than its box is in the middle of it.
abbrev pub boxing_text : Option Boxing → List ℕ
boxing_text None = []
boxing_text (Some NoWidth) = codes " width=\"0\""
boxing_text (Some Flat) = codes " height=\"0\" depth=\"0\""
boxing_text (Some NoHeight) = codes " height=\"0\""
boxing_text (Some NoDepth) = codes " depth=\"0\""
boxing_text (Some ByItsWidth) = codes " style=\"transform: translateX(-100%)\""
boxing_text (Some ByHalfItsWidth) = codes " style=\"transform: translateX(-50%)\""
boxing_text (Some Framed) = codes " style=\"border: thin solid; padding: 0.3em\""
boxing_text (Some StruckUp) = codes " style=\"background: " ++ (line_up ++ codes "\"")
boxing_text (Some StruckDown) = codes " style=\"background: " ++ (line_down ++ codes "\"")
boxing_text (Some StruckTwice) = codes " style=\"background: " ++ (line_up ++ (codes ", " ++ (line_down ++ codes "\"")))
boxing_text (Some NullDelimiters) = codes " style=\"padding: 0 calc(0.12em - 1px)\""
boxing_text (Some ArrowLabel) = codes " style=\"padding: 0 0.389em\""
boxing_text (Some Unclipped) = codes " style=\"box-shadow: 0 0 0 50em transparent\""
boxing_text (Some Monospaced) = codes " style=\"font-family: monospace\""
boxing_text (Some JoinedLines) = codes " style=\"border-collapse: collapse\""
boxing_text (Some (AtMost width)) = codes " style=\"max-width: " ++ (thousandths_text width ++ codes "em\"")

-- a size of letters is relative to that around the element
abbrev pub scale_text : Option ℕ → List ℕ
scale_text None = []
scale_text (Some scale) = length_text (codes "mathsize") (pos scale)

-- all attributes, each with a space before it
abbrev pub attributes_text : Attributes → List ℕ
attributes_text a =
    if_so a.upright (codes " mathvariant=\"normal\"")
    ++ (form_text a.form
    ++ (stretch_text a.stretch
    ++ (if_so a.fence (codes " fence=\"true\"")
    ++ (if_so a.separator (codes " separator=\"true\"")
    ++ (size_text a.size
    ++ (space_text a.space
    ++ (if_so a.limits_stay (codes " movablelimits=\"false\"")
    ++ (if_so a.keeps_size (codes " largeop=\"false\"")
    ++ (accent_text a.accent
    ++ (if_so a.no_line (codes " linethickness=\"0\"")
    ++ (style_text a.style
    ++ (boxing_text a.boxing
    ++ (length_if_any (codes "voffset") a.raised
    ++ (scale_text a.scale
    ++ (color_text (codes "mathcolor") a.color
    ++ color_text (codes "mathbackground") a.background)))))))))))))))

-- the alignment of a column is written twice: some browsers read this attribute, others the style
abbrev pub alignment_text : Alignment → List ℕ
alignment_text LeftAligned = codes " columnalign=\"left\""
alignment_text Continued = codes " columnalign=\"left\""
alignment_text RightAligned = codes " columnalign=\"right\""
alignment_text alignment = []

-- how cells are aligned, in the language of style sheets
abbrev pub alignment_style : Alignment → List ℕ
alignment_style LeftAligned = codes "text-align: left; "
alignment_style Continued = codes "text-align: left; "
alignment_style RightAligned = codes "text-align: right; text-align: -webkit-right; "
alignment_style alignment = []

-- The space around the contents of cells, in the same language: above, at the right, below, and at the left. Between columns is a
-- quad, or half of one around each; dense cells have less. Struts keep rows apart, and opened rows have more between them.
abbrev pub sides_style : Density → Spacing → List ℕ
sides_style Opened Unspaced = codes "padding: 0.15em 0"
sides_style Opened SpaceBefore = codes "padding: 0.15em 0 0.15em 1em"
sides_style Opened SpaceAround = codes "padding: 0.15em 0.5em"
sides_style Dense SpaceBefore = codes "padding: 0 0 0 0.4em"
sides_style Dense SpaceAround = codes "padding: 0 0.2em"
sides_style density Unspaced = codes "padding: 0"
sides_style density SpaceBefore = codes "padding: 0 0 0 1em"
sides_style density SpaceAround = codes "padding: 0 0.5em"

-- The space in cells and around them. Some browsers make a cell as high as a line of text, which is lower than a strut by this.
abbrev pub spacing_style : Density → Spacing → List ℕ
spacing_style density spacing = sides_style density spacing ++ codes "; line-height: 1"

-- how a line is drawn, in the same language: two lines and the space between them are a pixel wide each
abbrev pub line_style : Line → List ℕ
line_style NoLine = codes "none"
line_style OneLine = codes "thin solid"
line_style TwoLines = codes "3px double"
line_style Dashes = codes "thin dashed"

-- the line at this side of cells, if there is one
abbrev pub border_style : List ℕ → Line → List ℕ
border_style side NoLine = []
border_style side line = codes "; border-" ++ (side ++ (codes ": " ++ line_style line))

-- how the cells of a column are drawn
abbrev pub column_style : Column → List ℕ
column_style column =
    alignment_style column.alignment
    ++ (spacing_style column.density column.spacing
    ++ (border_style (codes "left") column.before ++ border_style (codes "right") column.after))

-- the attributes of the cells of a column
abbrev pub column_text : Column → List ℕ
column_text column = alignment_text column.alignment ++ (codes " style=\"" ++ (column_style column ++ codes "\""))

-- Elements

-- a start tag
abbrev pub start_tag : List ℕ → Attributes → List ℕ
start_tag name a = codes "<" ++ (name ++ (attributes_text a ++ codes ">"))

-- an end tag
abbrev pub end_tag : List ℕ → List ℕ
end_tag name = codes "</" ++ (name ++ codes ">")

-- the attribute for the line above a row and the one below it
abbrev pub lines_between : Line → Line → List ℕ
lines_between NoLine NoLine = []
lines_between above NoLine = codes " style=\"border-top: " ++ (line_style above ++ codes "\"")
lines_between NoLine below = codes " style=\"border-bottom: " ++ (line_style below ++ codes "\"")
lines_between above below =
    codes " style=\"border-top: " ++ (line_style above ++ (codes "; border-bottom: " ++ (line_style below ++ codes "\"")))

-- the attribute for the lines next to a row
abbrev pub lines_text : RowLines → List ℕ
lines_text lines = lines_between lines.above lines.below

-- the start tag of a row
abbrev pub row_tag : RowLines → List ℕ
row_tag lines = codes "<mtr" ++ (lines_text lines ++ codes ">")

-- a row of these cells, and a cell of these elements
abbrev pub row_print : RowLines → List ℕ → List ℕ
row_print lines cells = row_tag lines ++ (cells ++ codes "</mtr>")

-- whether one of the rows has a line
abbrev pub have_line : Rows → Bool
have_line (one_row lines cells) = is_lined lines
have_line (more_rows lines cells rows) = is_lined lines || have_line rows

-- The attributes of a table, which may have lines. Browsers draw the lines of rows only where all lines are joined, and leave gaps
-- in the lines of columns where they are not.
abbrev pub table_attributes : Bool → Attributes → Attributes
table_attributes true a = record a { boxing = Some JoinedLines }
table_attributes false a = a

-- the start tag of a cell
abbrev pub cell_tag : Column → List ℕ
cell_tag column = codes "<mtd" ++ (column_text column ++ codes ">")

-- a cell with what is in it
abbrev pub cell_print : Column → List ℕ → List ℕ
cell_print column inside = cell_tag column ++ (inside ++ codes "</mtd>")

abbrev mutual
  pub print : Element → List ℕ
  print (token t a text) = start_tag (token_name t) a ++ (content text ++ end_tag (token_name t))
  print (space width) = codes "<mspace" ++ (width_start width ++ (width_text width ++ codes "em\"/>"))
  print (rectangle e) = codes "<mspace" ++ (extent_text e ++ codes "/>")
  print (container c a xs) = start_tag (container_name c) a ++ (prints xs ++ end_tag (container_name c))
  print (pair p a x y) = start_tag (pair_name p) a ++ (print x ++ (print y ++ end_tag (pair_name p)))
  print (triple t a x y z) = start_tag (triple_name t) a ++ (print x ++ (print y ++ (print z ++ end_tag (triple_name t))))
  print (table a rows) = start_tag (codes "mtable") (table_attributes (have_line rows) a) ++ (rows_print rows ++ end_tag (codes "mtable"))

  -- elements one after another
  pub prints : Elements → List ℕ
  prints none = []
  prints (more x xs) = print x ++ prints xs

  pub rows_print : Rows → List ℕ
  rows_print (one_row lines cells) = row_print lines (cells_print cells)
  rows_print (more_rows lines cells rows) = row_print lines (cells_print cells) ++ rows_print rows

  pub cells_print : Cells → List ℕ
  cells_print (one_cell column xs) = cell_print column (prints xs)
  cells_print (more_cells column xs cells) = cell_print column (prints xs) ++ cells_print cells

-- the start tag of a formula in a block of its own, or in a line of text
abbrev pub math_tag : Bool → List ℕ
math_tag true = codes "<math xmlns=\"http://www.w3.org/1998/Math/MathML\" display=\"block\">"
math_tag false = codes "<math xmlns=\"http://www.w3.org/1998/Math/MathML\" display=\"inline\">"

-- the formula of these elements
abbrev pub formula_print : Bool → Elements → List ℕ
formula_print is_display xs = math_tag is_display ++ (prints xs ++ codes "</math>")
