-- How wide the delimiters of TeX's fonts are.
use Rattle.std.specs.Prelude.{ℕ, ◌==◌, ◌||◌, List, [], ◌∷◌, Option, None, Some, option_map, if◌then◌else◌}
use Rattle.std.specs.Str.{chars}
use Rattle.latex2mathml_elements.specs.Attributes.{Size, Big, Bigger, VeryBig, Biggest, Boxing, AtMost}

-- the width of a delimiter in each size, in thousandths of an em
pub record Widths : Type 0 where
  pub big : ℕ
  pub bigger : ℕ
  pub very_big : ℕ
  pub biggest : ℕ

-- these widths, the smallest first
abbrev pub widths : ℕ → ℕ → ℕ → ℕ → Widths
widths a b c d = record { big = a; bigger = b; very_big = c; biggest = d }

-- The widths of the delimiters that are wider where they are higher. Some browsers leave as much room for each of them as for the
-- highest one.
abbrev pub widths_of : ℕ → Option Widths
widths_of c =
    if c == 0x28 || c == 0x29 then Some (widths 458 597 736 792)  -- ( )
    else if c == 0x5B || c == 0x5D then Some (widths 417 472 528 583)  -- [ ]
    else if c == 0x7B || c == 0x7D then Some (widths 583 667 750 806)  -- { }
    else if c == 0x2F || c == 0x5C then Some (widths 578 811 1044 1278)  -- / \
    else if c == 0x2308 || c == 0x2309 || c == 0x230A || c == 0x230B then Some (widths 472 528 583 639)  -- ⌈ ⌉ ⌊ ⌋
    else if c == 0x27E6 || c == 0x27E7 then Some (widths 480 660 838 1007)  -- ⟦ ⟧
    else if c == 0x27E8 || c == 0x27E9 then Some (widths 472 611 750 806)  -- ⟨ ⟩
    else None

-- the widths of the delimiter that is all of a text
abbrev pub widths_in : List ℕ → Option Widths
widths_in (c ∷ []) = widths_of c
widths_in characters = None

-- the width in this size
abbrev pub width_in : Size → Widths → ℕ
width_in Big w = w.big
width_in Bigger w = w.bigger
width_in VeryBig w = w.very_big
width_in Biggest w = w.biggest

-- a delimiter of this size has no more room than in TeX
abbrev pub room : Size → List ℕ → Option Boxing
room size sign_text = option_map (λ w. AtMost (width_in size w)) (widths_in (chars sign_text))
