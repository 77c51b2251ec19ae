-- What the cutter's functions return, in terms of the definitions of documents: the pieces, one at a time.
use Rattle.std.specs.Prelude.{◌≡◌, ◌≢◌, ◌<◌, ◌≤◌, ℕ, List, [], ◌∷◌, ◌++◌, Option, Some, None, Result, Ok, Err, slice_index}
use Rattle.latex2mathml.specs.Documents.{Piece, prose, inline, display, piece_text, spelling, IsWhole, IsPiece, IsCut, HasNoCut}
use Rattle.latex2mathml_grammar.specs.Dollars.{dollar}
use Rattle.latex2mathml.specs.declared.document.NoCut.{NoCut}
use Rattle.latex2mathml.specs.declared.document.Piece as code
use Rattle.latex2mathml.specs.declared.document.Piece.TheVariants.{Prose, Inline, Display}
use Rattle.latex2mathml.specs.declared.document.Pieces.{Pieces}

-- a piece of the code without its place in memory
abbrev pub piece_of : code.Piece → Piece
piece_of (Prose plain) = prose plain.text.now
piece_of (Inline body) = inline body.now
piece_of (Display body) = display body.now

-- this byte is the first of the text, or the text is empty
abbrev pub EndsAt : ℕ → List ℕ → Type 0
EndsAt b [] = Unit {0}
EndsAt b (c ∷ rest) = c ≡ b

-- the plain text before this rest can be no longer: the rest is empty, or begins with a dollar sign that is a unit
abbrev pub EndsBefore : List ℕ → List ℕ → Type 0
EndsBefore text [] = Unit {0}
EndsBefore text (b ∷ rest) = (b ≡ dollar) × IsWhole text

-- no byte from one place up to another is a dollar sign
abbrev pub HoldsNoDollar : List ℕ → ℕ → ℕ → Type 0
HoldsNoDollar text from to = (i : ℕ) → from ≤ i → i < to → slice_index text i ≢ dollar

-- here is the first dollar sign of those from a place up to another
pub record IsFirstDollar (text : List ℕ) (from to here : ℕ) : Type 0 where
  pub low : from ≤ here
  pub high : here < to
  pub none_before : HoldsNoDollar text from here
  pub is_dollar : slice_index text here ≡ dollar

-- a piece before this rest can be no longer: prose ends as plain text does, and a formula ends with its dollar signs
abbrev pub IsLongest : Piece → List ℕ → Type 0
IsLongest (prose text) rest = EndsBefore text rest
IsLongest piece rest = Unit {0}

-- the text is this piece and then the rest
pub record BeginsWithPiece (text : List ℕ) (piece : Piece) (rest : List ℕ) : Type 0 where
  pub is_piece : IsPiece piece
  pub split : piece_text piece ++ rest ≡ text
  pub longest : IsLongest piece rest

-- the text is this piece of the code and then the rest
abbrev pub BeginsWith : List ℕ → code.Piece → List ℕ → Type 0
BeginsWith text piece rest = BeginsWithPiece text (piece_of piece) rest

-- a piece, or the report that the document has no cut
abbrev pub Item : Type 0
Item = Result code.Piece NoCut

-- what a call gives: the piece at the front; or that the rest has no cut, after which nothing is left; or the end
abbrev pub GivesPiece : Pieces → Option Item → Pieces → Type 0
GivesPiece before None after = (before.rest.now ≡ []) × (after.rest.now ≡ [])
GivesPiece before (Some (Ok piece)) after = BeginsWith before.rest.now piece after.rest.now
GivesPiece before (Some (Err no_cut)) after = HasNoCut before.rest.now × (after.rest.now ≡ [])

-- the pieces spell the document up to the rest, every cut of the document begins with them, and they make a cut of the
-- rest a cut of the document
pub record IsFront (document : List ℕ) (given : List Piece) (rest : List ℕ) : Type 0 where
  pub spelled : spelling given ++ rest ≡ document
  pub goes_on : (later : List Piece) → IsCut rest later → IsCut document (given ++ later)
  pub only : (pieces : List Piece) → IsCut document pieces → (later : List Piece) × (pieces ≡ given ++ later) × IsCut rest later

-- what was given after these pieces: pieces up to the rest, or at last that the document has no cut
abbrev pub GivenBehind : List ℕ → List Piece → List Item → List ℕ → Type 0
GivenBehind document before [] rest = IsFront document before rest
GivenBehind document before (Ok piece ∷ given) rest = GivenBehind document (before ++ piece_of piece ∷ []) given rest
GivenBehind document before (Err no_cut ∷ []) rest = HasNoCut document
GivenBehind document before (Err no_cut ∷ item ∷ given) rest = ⊥

-- what was given so far, with this rest left
abbrev pub IsGiven : List ℕ → List Item → List ℕ → Type 0
IsGiven document given rest = GivenBehind document [] given rest
