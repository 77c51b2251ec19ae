-- What is counted while a text is read, over its slices.
use Rattle.std.specs.Prelude.{◌≡◌, ℕ, ◌+◌, ◌*◌, ◌<◌, ◌≤◌, Bool, false, IsTrue, List, [], ◌∷◌, length, take, count_by, None}
use Rattle.latex2mathml_grammar.specs.Characters.{◌∈◌}
use Rattle.latex2mathml_grammar.specs.Grammar.{node, Read, Reads, Refused}
use Rattle.latex2mathml_grammar.specs.Spelling.{Slice, HasSlices, HasTokens}
use Rattle.latex2mathml_trees.specs.Tree.{Tree}
use Rattle.latex2mathml_tokens.specs.{Refusal.Refusal, Tok.Tok}

-- the text begins with a backslash
abbrev pub begins_with_backslash : List ℕ → Bool
begins_with_backslash [] = false
begins_with_backslash (c ∷ cs) = c ∈ "\\"

-- how many of the slices begin with a backslash
abbrev pub backslashes : List Slice → ℕ
backslashes slices = count_by (λ s. begins_with_backslash s.text) slices

-- n tokens were taken: no more than the text has, and all of them where `done` holds
abbrev pub IsTokenCount : List ℕ → Bool → ℕ → Type 0
IsTokenCount text done n =
    (slices : List Slice) × HasSlices false text slices × (n ≤ length slices) × (IsTrue done → n ≡ length slices)

-- The first `taken` tokens of the text were taken. If k of their slices begin with a backslash, the number n of comparisons is
-- from k to 9 * k.
abbrev pub IsComparisonCount : List ℕ → ℕ → ℕ → Type 0
IsComparisonCount text taken n =
    (slices : List Slice) × HasSlices false text slices × (backslashes (take taken slices) ≤ n) × (n ≤ 9 * backslashes (take taken slices))

-- consecutive nodes are read at the front of the tokens `ts`, and these tokens are left
pub data ReadsNodes (ts : List Tok) : List Tok → Type 0 where
  none_read : ReadsNodes ts ts
  one_more : {t : Tok} {l m : List Tok} {x : Tree}
      → ReadsNodes ts (t ∷ l)
      → Reads node (t ∷ l) (Read x m)
      → ReadsNodes ts m

-- n tokens of the text were taken until it was refused: all those before the node that is refused, and at least one more
abbrev pub IsRefusalCount : List ℕ → ℕ → Refusal → Type 0
IsRefusalCount text n r =
    (ts : List Tok) × HasTokens None text ts × ((place : List Tok) × ReadsNodes ts place × Reads node place (Refused r) × (length ts < n + length place))
