-- ASCII characters that contents hold as they are, and the elements of them.
use Rattle.std.specs.Prelude.{◌≡◌, ℕ, ◌<◌, List, [], ◌∷◌, ◌++◌, codes}
use Rattle.latex2mathml_tokens.specs.Escape.{content, content_char}

-- the character is ASCII, and contents hold it as it is
pub record IsPlain (c : ℕ) : Type 0 where
  pub ascii : c < 128
  pub kept : content (c ∷ []) ≡ c ∷ []
  pub as_char : content_char c ≡ c ∷ []

-- an element without attributes whose name is `m` and this letter, and which holds this character
abbrev pub plain_print : ℕ → ℕ → List ℕ
plain_print letter c = codes "<m" ++ (letter ∷ (codes ">" ++ (c ∷ (codes "</m" ++ (letter ∷ codes ">")))))
