-- Texts without a dollar sign. The sign is ASCII, so it is not a byte of any other character, and what is said of bytes
-- here holds of characters.
use Rattle.std.specs.Prelude.{ℕ, not, ◌==◌, IsTrue, List}
use Rattle.std.specs.{List.list_all, Str.byte}

-- the text, as its bytes, holds no dollar sign
abbrev pub IsDollarFree : List ℕ → Type 0
IsDollarFree text = IsTrue (list_all (λ b. not (b == byte "$")) text)
