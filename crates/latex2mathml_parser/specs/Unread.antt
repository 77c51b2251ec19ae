-- What is left of a text that is taken token by token, and what was counted so far.
use Rattle.std.specs.Str.{chars}
use Rattle.std.specs.Prelude.{◌≡◌, false, ℕ, ◌+◌, ◌*◌, ◌≤◌, List, [], drop, map, length}
use Rattle.latex2mathml_grammar.specs.{Counts.backslashes, Cutting.slices_of, Grammar.first_or_end, Openers.openers, Spelling.Slice}
use Rattle.latex2mathml_parser.specs.Marks.{NameStands, rest_of}
use Rattle.latex2mathml_tokens.specs.Tok.{Tok, EOF}

-- the slices that are left and their tokens, the number of tokens taken, the number of slices left that begin with a
-- backslash, and the number of names compared for the slices taken
pub record Unread : Type 0 where
  pub slices : List Slice
  pub list : List Tok
  pub tokens : ℕ
  pub backslashes : ℕ
  pub comparisons : ℕ

abbrev pub token_list : List Slice → List Tok
token_list slices = map (λ s. s.token) slices

-- what is left where these slices are, with the counts of what was taken
abbrev pub unread_in : List Slice → ℕ → ℕ → Unread
unread_in slices tokens comparisons = record {
  slices = slices;
  list = token_list slices;
  tokens = tokens;
  backslashes = backslashes slices;
  comparisons = comparisons;
}

-- the slices of a whole text
abbrev pub slices_in : List ℕ → List Slice
slices_in text = slices_of false (chars text)

-- a name of these bytes was taken
abbrev pub TakesName : List ℕ → Unread → Unread → Type 0
TakesName bytes old new = NameStands bytes old.list new.list

-- of these slices, the first ones were taken, one for each token taken, and the others are left
abbrev pub IsLeftOf : List Slice → Unread → Type 0
IsLeftOf slices unread = unread.slices ≡ drop unread.tokens slices

-- the counts went on with the tokens: a token that is no longer left was taken, no token that opens a frame was added, and
-- k slices read that begin with a backslash took k to 9 * k comparisons
pub record GoesOn (old new : Unread) : Type 0 where
  pub tokens : new.tokens + length new.list ≡ old.tokens + length old.list
  pub more : old.tokens ≤ new.tokens
  pub openers : openers new.list ≤ openers old.list
  pub rest : (slices : List Slice) → IsLeftOf slices old → IsLeftOf slices new
  pub at_least : old.comparisons + old.backslashes ≤ new.comparisons + new.backslashes
  pub at_most : new.comparisons + 9 * new.backslashes ≤ old.comparisons + 9 * old.backslashes

-- t is the next token, which was taken; where no token was left, t is the end
pub record Takes (t : Tok) (old new : Unread) : Type 0 where
  pub token : t ≡ first_or_end old.list
  pub list : new.list ≡ rest_of old.list
  pub ended : t ≡ EOF → old.list ≡ []
  pub counts : GoesOn old new

-- Reading went on from what was left to what is left now, and the greatest number of frames, which was `before`, is
-- `after`: each frame was opened for a token that was taken, and each such token opened at most one.
pub record OpensFor (old new : Unread) (before after : ℕ) : Type 0 where
  pub taken : after + old.tokens ≤ before + new.tokens
  pub openers : after + openers new.list ≤ before + openers old.list
