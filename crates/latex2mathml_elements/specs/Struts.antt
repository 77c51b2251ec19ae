-- Struts keep the rows of a table apart. A browser makes a row as high as what is in it, so that rows of low letters would be
-- nearer to each other than rows of high ones. In TeX each row has a strut, which is an invisible rectangle.
use Rattle.std.specs.Prelude.{ℕ, suc, ◌+◌, ◌-◌, ℤ, pos, negsuc, false, [], ◌∷◌}
use Rattle.latex2mathml_elements.specs.{Attributes.plain, Columns.Density, Columns.Dense, Columns.Usual, Columns.Stretched, Columns.Opened, Extents.Extent}
use Rattle.latex2mathml_elements.specs.Element.{Element, Mrow, container, children, rectangle}

-- how high and how deep a row is at least, in thousandths of an em
abbrev pub least_height : Density → ℕ
least_height Dense = 600
least_height Usual = 840
least_height Stretched = 1008
least_height Opened = 840

abbrev pub least_depth : Density → ℕ
least_depth Dense = 257
least_depth Usual = 360
least_depth Stretched = 432
least_depth Opened = 360

-- this depth with this space below it; a negative space takes from it, but no more than all of it
abbrev pub deepened : ℕ → ℤ → ℕ
deepened depth (pos n) = n + depth
deepened depth (negsuc n) = depth - suc n

-- the strut of a row that has this space below it, in thousandths of an em
abbrev pub strut : Density → ℤ → Extent
strut density gap = record { width = pos 0; height = pos (least_height density); depth = pos (deepened (least_depth density) gap); is_black = false }

-- an element with a strut behind it
abbrev pub with_strut : Extent → Element → Element
with_strut extent x = container Mrow plain (children (x ∷ rectangle extent ∷ []))
