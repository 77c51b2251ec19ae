-- What a text begins with: a run of characters, a slice, a number. No promise rests on these definitions. The proof that
-- a text has slices uses them, and so does the code that reads slices.
use Rattle.std.specs.Prelude.{◌≡◌, ℕ, Bool, List, ◌++◌}
use Rattle.std.specs.List.{AllPass}
use Rattle.latex2mathml_grammar.specs.{Characters.Stops, Characters.head, Spelling.SpellsAt, Spelling.IsNumber}
use Rattle.latex2mathml_tokens.specs.Tok.{Tok}

-- the text is `front` followed by `back`, and `front` is the longest run of characters that pass the test
abbrev pub IsLongestRun : (ℕ → Bool) → List ℕ → List ℕ → List ℕ → Type 0
IsLongestRun p text front back = (text ≡ front ++ back) × AllPass p front × Stops p (head back)

-- the text is a slice that spells t, and then the rest
abbrev pub BeginsWith : Bool → List ℕ → Tok → List ℕ → Type 0
BeginsWith alone text t rest = (w : List ℕ) × (text ≡ w ++ rest) × SpellsAt alone w (head rest) t

-- the text is a number, and then the rest
abbrev pub BeginsWithNumber : List ℕ → List ℕ → Type 0
BeginsWithNumber text rest = (w : List ℕ) × (text ≡ w ++ rest) × IsNumber w (head rest)
