-- An element that is a group of its own.
use Rattle.std.specs.Prelude.{[], ◌∷◌}
use Rattle.latex2mathml_elements.specs.{Attributes.plain, Element.Mrow, Element.Element, Element.token, Element.container, Element.children}

-- an element as a group: one that holds a text becomes the only child of an `mrow`
abbrev pub grouped : Element → Element
grouped (token t a text) = container Mrow plain (children (token t a text ∷ []))
grouped x = x
