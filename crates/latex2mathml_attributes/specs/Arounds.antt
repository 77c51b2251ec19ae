-- Elements around one other element, and rectangles, as values of the definitions.
use Rattle.std.specs.Prelude.{[], ◌∷◌, Some}
use Rattle.latex2mathml_elements.specs.Attributes as attributes
use Rattle.latex2mathml_elements.specs.Attributes.{Attributes, boxed, plain}
use Rattle.latex2mathml_elements.specs.Colors as colors
use Rattle.latex2mathml_elements.specs.Element.{Container, Mstyle, Mpadded, Mphantom, Element, container, children}
use Rattle.latex2mathml_elements.specs.Extents as extents
use Rattle.latex2mathml_attributes.specs.declared.around.Around.{Around}
use Rattle.latex2mathml_attributes.specs.declared.around.Around.TheVariants as around
use Rattle.latex2mathml_attributes.specs.declared.around.Boxing.{Boxing}
use Rattle.latex2mathml_attributes.specs.declared.around.Boxing.TheVariants as boxing
use Rattle.latex2mathml_attributes.specs.declared.around.Color.{Color}
use Rattle.latex2mathml_attributes.specs.declared.extent.Extent.{Extent}

abbrev pub color_of : Color → colors.Color
color_of c = record { red = c.red; green = c.green; blue = c.blue }

abbrev pub extent_of : Extent → extents.Extent
extent_of e = record { width = e.width; height = e.height; depth = e.depth; is_black = e.is_black }

abbrev pub boxing_of : Boxing → attributes.Boxing
boxing_of boxing.NoWidth = attributes.NoWidth
boxing_of boxing.Flat = attributes.Flat
boxing_of boxing.NoHeight = attributes.NoHeight
boxing_of boxing.NoDepth = attributes.NoDepth
boxing_of boxing.ByItsWidth = attributes.ByItsWidth
boxing_of boxing.ByHalfItsWidth = attributes.ByHalfItsWidth
boxing_of boxing.Framed = attributes.Framed
boxing_of boxing.StruckUp = attributes.StruckUp
boxing_of boxing.StruckDown = attributes.StruckDown
boxing_of boxing.StruckTwice = attributes.StruckTwice

abbrev pub around_name : Around → Container
around_name around.Unseen = Mphantom
around_name (around.Boxed b) = Mpadded
around_name (around.Raised length) = Mpadded
around_name (around.Colored color) = Mstyle
around_name (around.Scaled scale) = Mstyle
around_name (around.Before color) = Mpadded

abbrev pub around_attributes : Around → Attributes
around_attributes around.Unseen = plain
around_attributes (around.Boxed b) = boxed (boxing_of b)
around_attributes (around.Raised length) = record plain { raised = length }
around_attributes (around.Colored color) = record plain { color = Some (color_of color) }
around_attributes (around.Scaled scale) = record plain { scale = Some scale }
around_attributes (around.Before color) = record plain { background = Some (color_of color) }

-- the element around another
abbrev pub element_around : Around → Element → Element
element_around a x = container (around_name a) (around_attributes a) (children (x ∷ []))
