-- The first of several texts, each of which a NUL ends.
use Rattle.std.specs.Prelude.{◌≡◌, ℕ, List, [], ◌∷◌, ◌++◌}
use Rattle.latex2mathml_tex_program.specs.Replies.{IsWithoutNul}

-- the first of these texts, and what follows it
pub data IsFirstText (texts : List ℕ) : List ℕ → List ℕ → Type 0 where
  before_nul : {text rest : List ℕ}
      → texts ≡ text ++ 0 ∷ rest
      → IsWithoutNul text
      → IsFirstText texts text rest
  -- no NUL ends the last text
  last : IsWithoutNul texts → IsFirstText texts texts []
