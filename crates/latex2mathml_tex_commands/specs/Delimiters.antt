-- The text of a delimiter.
use Rattle.std.specs.Prelude.{ℕ, List, [], ◌∷◌, Option, Some, None}
use Rattle.std.specs.Str.{encode_utf8_all}

-- the text of a delimiter; the empty one has no character
abbrev pub delimiter_text : Option ℕ → List ℕ
delimiter_text None = []
delimiter_text (Some c) = encode_utf8_all (c ∷ [])
