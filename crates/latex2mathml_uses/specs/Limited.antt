-- The size of a formula.
use Rattle.std.specs.Prelude.{◌≡◌, ℕ, List, false, length}
use Rattle.std.specs.Str.{chars}
use Rattle.latex2mathml.specs.Counting.{Slice, HasSlices}

-- the text is cut into `count` slices, each of one token
abbrev pub HasTokenCount : List ℕ → ℕ → Type 0
HasTokenCount text count = (slices : List Slice) × HasSlices false (chars text) slices × (count ≡ length slices)
