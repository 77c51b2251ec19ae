-- The laws of the spelling, and of the reading of what is spelled: they hold of every text.
use Rattle.std.specs.Prelude.{◌≡◌, ℕ, false, List, None}
use Rattle.latex2mathml_grammar.specs.{Laws.HasOneReading, Spelling.Slice, Spelling.HasSlices, Spelling.HasTokens}
use Rattle.latex2mathml_tokens.specs.Tok.{Tok}

-- the text, a list of characters, has exactly one token list
pub record HasOneTokenList (text : List ℕ) : Type 0 where
  -- two cuts of it into slices are the same slices
  pub one_cut : (slices others : List Slice) → HasSlices false text slices → HasSlices false text others → slices ≡ others
  -- it has a token list
  pub some : (ts : List Tok) × HasTokens None text ts
  -- two token lists of it are the same list
  pub one : (ts us : List Tok) → HasTokens None text ts → HasTokens None text us → ts ≡ us

-- the text has exactly one token list, and that has exactly one reading or exactly one refusal
pub record TextHasOneReading (text : List ℕ) : Type 0 where
  pub one_list : HasOneTokenList text
  pub read : (ts : List Tok) → HasTokens None text ts → HasOneReading ts
