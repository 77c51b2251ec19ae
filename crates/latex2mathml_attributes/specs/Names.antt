-- The names and attributes of the code, as values of the definitions.
use Rattle.std.specs.Prelude.{ℕ, List, Option, None, Some, option_map, pos}
use Rattle.latex2mathml_elements.specs.Attributes as attributes
use Rattle.latex2mathml_elements.specs.Element as element
use Rattle.latex2mathml_attributes.specs.declared.attributes.Attributes.{Attributes}
use Rattle.latex2mathml_attributes.specs.declared.attributes.BoxStyle.{BoxStyle}
use Rattle.latex2mathml_attributes.specs.declared.attributes.BoxStyle.TheVariants as box_style
use Rattle.latex2mathml_attributes.specs.declared.attributes.Form.{Form}
use Rattle.latex2mathml_attributes.specs.declared.attributes.Form.TheVariants as form
use Rattle.latex2mathml_attributes.specs.declared.attributes.MathStyle.{MathStyle}
use Rattle.latex2mathml_attributes.specs.declared.attributes.MathStyle.TheVariants as math_style
use Rattle.latex2mathml_attributes.specs.declared.attributes.Side.{Side}
use Rattle.latex2mathml_attributes.specs.declared.attributes.Side.TheVariants as side
use Rattle.latex2mathml_attributes.specs.declared.attributes.Size.{Size}
use Rattle.latex2mathml_attributes.specs.declared.attributes.Size.TheVariants as size
use Rattle.latex2mathml_attributes.specs.declared.attributes.Space.{Space}
use Rattle.latex2mathml_attributes.specs.declared.attributes.Space.TheVariants as space
use Rattle.latex2mathml_attributes.specs.declared.attributes.Stretch.{Stretch}
use Rattle.latex2mathml_attributes.specs.declared.attributes.Stretch.TheVariants as stretch
use Rattle.latex2mathml_attributes.specs.declared.tag.Container.{Container}
use Rattle.latex2mathml_attributes.specs.declared.tag.Container.TheVariants as container
use Rattle.latex2mathml_attributes.specs.declared.tag.Pair.{Pair}
use Rattle.latex2mathml_attributes.specs.declared.tag.Pair.TheVariants as pair
use Rattle.latex2mathml_attributes.specs.declared.tag.Token.{Token}
use Rattle.latex2mathml_attributes.specs.declared.tag.Token.TheVariants as token
use Rattle.latex2mathml_attributes.specs.declared.tag.Triple.{Triple}
use Rattle.latex2mathml_attributes.specs.declared.tag.Triple.TheVariants as triple

abbrev pub form_of : Form → attributes.Form
form_of form.Prefix = attributes.Prefix
form_of form.Infix = attributes.Infix
form_of form.Postfix = attributes.Postfix

abbrev pub math_style_of : MathStyle → attributes.MathStyle
math_style_of math_style.Display = attributes.DisplayStyle
math_style_of math_style.Text = attributes.TextStyle
math_style_of math_style.Script = attributes.ScriptStyle

abbrev pub side_of : Side → attributes.Side
side_of side.Above = attributes.Above
side_of side.Below = attributes.Below

abbrev pub size_of : Size → attributes.Size
size_of size.Big = attributes.Big
size_of size.Bigger = attributes.Bigger
size_of size.VeryBig = attributes.VeryBig
size_of size.Biggest = attributes.Biggest

abbrev pub space_of : Space → attributes.Space
space_of space.NoSpace = attributes.NoSpace
space_of space.Narrow = attributes.Narrow
space_of space.Medium = attributes.Medium
space_of space.Thick = attributes.Thick
space_of space.NoSpaceBefore = attributes.NoSpaceBefore
space_of space.NullDelimiterAfter = attributes.NullDelimiterAfter
space_of space.ThinAfter = attributes.ThinAfter
space_of space.ThickAfter = attributes.ThickAfter
space_of space.NoSpaceAfter = attributes.NoSpaceAfter
space_of space.ThickBefore = attributes.ThickBefore

abbrev pub stretch_of : Stretch → attributes.Stretch
stretch_of stretch.Stretching = attributes.Stretching
stretch_of stretch.Rigid = attributes.Rigid

abbrev pub box_style_of : BoxStyle → attributes.Boxing
box_style_of box_style.NullDelimiters = attributes.NullDelimiters
box_style_of box_style.ArrowLabel = attributes.ArrowLabel
box_style_of box_style.Unclipped = attributes.Unclipped
box_style_of box_style.Monospaced = attributes.Monospaced

-- the change to the box of an element whose box has a style, or a greatest width in thousandths of an em
abbrev pub boxing_in : Option BoxStyle → Option ℕ → Option attributes.Boxing
boxing_in None room = option_map attributes.AtMost room
boxing_in (Some p) room = Some (box_style_of p)

abbrev pub attributes_of : Attributes → attributes.Attributes
attributes_of a = record {
  upright = a.upright;
  form = option_map form_of a.form;
  stretch = option_map stretch_of a.stretch;
  fence = a.fence;
  separator = a.separator;
  size = option_map size_of a.size;
  space = option_map space_of a.space;
  limits_stay = a.limits_stay;
  keeps_size = a.keeps_size;
  accent = option_map side_of a.accent;
  no_line = a.no_line;
  style = option_map math_style_of a.style;
  boxing = boxing_in a.box_style a.room;
  raised = pos 0;
  scale = None;
  color = None;
  background = None;
}

-- the attributes of an element that may have none
abbrev pub attributes_if_any : Option Attributes → attributes.Attributes
attributes_if_any None = attributes.plain
attributes_if_any (Some a) = attributes_of a

abbrev pub token_of : Token → element.Token
token_of token.Mi = element.Mi
token_of token.Mn = element.Mn
token_of token.Mo = element.Mo
token_of token.Mtext = element.Mtext

-- an element that holds a text
abbrev pub element_with_text : Token → Attributes → List ℕ → element.Element
element_with_text t a text = element.token (token_of t) (attributes_of a) text

abbrev pub container_of : Container → element.Container
container_of container.Mrow = element.Mrow
container_of container.Msqrt = element.Msqrt
container_of container.Mstyle = element.Mstyle

abbrev pub pair_of : Pair → element.Pair
pair_of pair.Mfrac = element.Mfrac
pair_of pair.Mroot = element.Mroot
pair_of pair.Msub = element.Msub
pair_of pair.Msup = element.Msup
pair_of pair.Munder = element.Munder
pair_of pair.Mover = element.Mover

abbrev pub triple_of : Triple → element.Triple
triple_of triple.Msubsup = element.Msubsup
triple_of triple.Munderover = element.Munderover
