-- The tags of elements whose names have two letters.
use Rattle.std.specs.Prelude.{ℕ, List, ◌∷◌, ◌++◌, codes}

-- the start tag without attributes of an element whose name is `m` and this letter
abbrev pub short_start : ℕ → List ℕ
short_start letter = codes "<m" ++ (letter ∷ codes ">")

-- the end tag of such an element
abbrev pub short_end : ℕ → List ℕ
short_end letter = codes "</m" ++ (letter ∷ codes ">")
