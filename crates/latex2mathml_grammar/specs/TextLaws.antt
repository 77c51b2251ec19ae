-- The laws of all texts and of all lists of tokens at once: no text is needed to use them.
use Rattle.std.specs.Prelude.{ℕ, List, IsUtf8}
use Rattle.latex2mathml_grammar.specs.{Laws.HasOneReading, Places.HasPlaces, Places.SpaceChangesNothing, TokenLists.TextHasOneReading}
use Rattle.latex2mathml_tokens.specs.Tok.{Tok}

-- what holds of all texts
pub record TextsHold : Type 0 where
  -- here a text is its characters
  pub one_reading : (text : List ℕ) → TextHasOneReading text
  pub one_reading_of : (l : List Tok) → HasOneReading l
  pub places : (text : List ℕ) → HasPlaces text
  -- here a text is its bytes
  pub white_space : (before space after : List ℕ) → IsUtf8 before → IsUtf8 space → SpaceChangesNothing before space after
