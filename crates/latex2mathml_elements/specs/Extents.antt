-- The width, height and depth of a rectangle.
use Rattle.std.specs.Prelude.{ℕ, zero, suc, ℤ, pos, negsuc, Bool, true, false, List, [], ◌∷◌, ◌++◌, codes}
use Rattle.std.specs.Str.{byte}
use Rattle.latex2mathml_trees.specs.Width.{thousandths_text}

-- the lengths are in thousandths of an em
pub record Extent : Type 0 where
  pub width : ℤ
  -- above the line
  pub height : ℤ
  -- below the line
  pub depth : ℤ
  pub is_black : Bool

-- an empty rectangle with a width only
abbrev pub wide : ℤ → Extent
wide width = record { width = width; height = pos 0; depth = pos 0; is_black = false }

-- a length of this many thousandths of an em, in ems, as a decimal fraction
abbrev pub ems : ℤ → List ℕ
ems (pos n) = thousandths_text n
ems (negsuc n) = byte "-" ∷ thousandths_text (suc n)

-- the attribute of this name with this length
abbrev pub length_text : List ℕ → ℤ → List ℕ
length_text name length = codes " " ++ (name ++ (codes "=\"" ++ (ems length ++ codes "em\"")))

-- a length of zero is not written
abbrev pub length_if_any : List ℕ → ℤ → List ℕ
length_if_any name (pos zero) = []
length_if_any name length = length_text name length

-- the attribute of a black rectangle
abbrev pub black_text : Bool → List ℕ
black_text true = codes " mathbackground=\"black\""
black_text false = []

-- The attribute for a width, up to its number. MathML has no negative widths: they move what follows back, in the language of styles.
abbrev pub width_start : ℤ → List ℕ
width_start (pos n) = codes " width=\""
width_start (negsuc n) = codes " style=\"margin-left: "

-- the attributes of an extent
abbrev pub extent_text : Extent → List ℕ
extent_text e =
    (width_start e.width ++ (ems e.width ++ codes "em\""))
    ++ (length_if_any (codes "height") e.height
    ++ (length_if_any (codes "depth") e.depth
    ++ black_text e.is_black))
