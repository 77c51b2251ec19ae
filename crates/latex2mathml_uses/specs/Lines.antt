-- Where the lines of a formula may end.
use Rattle.std.specs.Prelude.{ℕ, List}
use Rattle.std.specs.Str.{chars}
use Rattle.latex2mathml.specs.Places.{IsBetweenTokens, IsDigitPlace}

-- a line may end between the two texts: the place is between two tokens, and is not a digit place
abbrev pub IsBreak : List ℕ → List ℕ → Type 0
IsBreak first second = (place : IsBetweenTokens (chars first) (chars second)) × ¬ (IsDigitPlace place)
