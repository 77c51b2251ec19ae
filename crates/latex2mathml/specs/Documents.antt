-- Documents: prose with formulas between dollar signs. From top to bottom, this file defines what `replace` answers for a
-- document. It cuts the document into pieces, keeps the prose byte for byte except for `\$`, and replaces each formula by
-- its own rendering. Or it refuses the document, for its dollar signs first, and then for its first refused formula.
-- `replace` answers nothing else, unless memory runs out, and each document has exactly one answer or exactly one
-- refusal (`laws::one_outcome`).
--
-- Here a text is its bytes.
use Rattle.std.specs.Prelude.{◌≡◌, ◌≢◌, ◌⊎◌, ◌==◌, ℕ, List, [], ◌∷◌, ◌++◌, codes, if◌then◌else◌}
use Rattle.latex2mathml_grammar.specs.{Dollars.dollar, Dollars.backslash, Rendering.IsFormulaRefusal, Rendering.IsRendering}
use Rattle.latex2mathml_tokens.specs.Refusal.{Refusal, InvalidNumberOfDollarSigns}
use Rattle.latex2mathml_tokens.specs.declared.DisplayStyle.TheVariants.{Block, Inline}

-- The pieces.

-- prose, a formula in a line of text, or a formula in a block of its own
pub data Piece : Type 0 where
  prose : List ℕ → Piece
  inline : List ℕ → Piece
  display : List ℕ → Piece

-- how a piece is written in a document
abbrev pub piece_text : Piece → List ℕ
piece_text (prose text) = text
piece_text (inline body) = codes "$" ++ (body ++ codes "$")
piece_text (display body) = codes "$$" ++ (body ++ codes "$$")

-- pieces one after another, with nothing between them
abbrev pub spelling : List Piece → List ℕ
spelling [] = []
spelling (piece ∷ pieces) = piece_text piece ++ spelling pieces

-- Text is read unit by unit, from left to right: a backslash forms a unit with the character after it, whatever that is,
-- and any other character is a unit by itself. A dollar sign begins or ends a formula where it is a unit. Here a backslash
-- may take just the first byte of a longer character, since no further byte of it is a dollar sign or a backslash.

-- whole units, none of them a dollar sign
pub data IsWhole : List ℕ → Type 0 where
  nothing : IsWhole []
  single : {b : ℕ} {text : List ℕ} → b ≢ dollar → b ≢ backslash → IsWhole text → IsWhole (b ∷ text)
  pair : {b c : ℕ} {text : List ℕ} → b ≡ backslash → IsWhole text → IsWhole (b ∷ c ∷ text)

-- text in which no formula begins or ends: whole units, and then at most one backslash
pub data IsPlain : List ℕ → Type 0 where
  whole : {text : List ℕ} → IsWhole text → IsPlain text
  lone : {front text : List ℕ} → IsWhole front → text ≡ front ++ codes "\\" → IsPlain text

-- what may be between dollar signs: its last unit is whole, so a dollar sign may follow
abbrev pub IsBody : List ℕ → Type 0
IsBody text = (text ≢ []) × IsWhole text

-- prose is plain, and not empty
abbrev pub IsPiece : Piece → Type 0
IsPiece (prose text) = (text ≢ []) × IsPlain text
IsPiece (inline body) = IsBody body
IsPiece (display body) = IsBody body

-- the piece may come before these pieces: prose never comes before prose, and before a formula its last unit is whole
abbrev pub MayFollow : Piece → List Piece → Type 0
MayFollow (prose text) [] = Unit {0}
MayFollow (prose text) (prose next ∷ pieces) = ⊥
MayFollow (prose text) (formula ∷ pieces) = IsWhole text
MayFollow piece pieces = Unit {0}

-- each is a piece that may come before the ones after it
abbrev pub ArePieces : List Piece → Type 0
ArePieces [] = Unit {0}
ArePieces (piece ∷ pieces) = IsPiece piece × MayFollow piece pieces × ArePieces pieces

-- the document is these pieces
pub record IsCut (document : List ℕ) (pieces : List Piece) : Type 0 where
  pub well_formed : ArePieces pieces
  pub spelled : spelling pieces ≡ document

-- the document has pieces: the dollar signs that are units pair
abbrev pub HasCut : List ℕ → Type 0
HasCut document = (pieces : List Piece) × IsCut document pieces

-- the document has no cut
abbrev pub HasNoCut : List ℕ → Type 0
HasNoCut document = ¬ HasCut document

-- The answer.

-- the answer of a backslash and the byte that it takes: a dollar sign becomes a reference, and loses its backslash
abbrev pub pair_answer : ℕ → List ℕ
pair_answer c = if c == dollar then codes "&#x24;" else backslash ∷ c ∷ []

-- the answer of prose, unit by unit
abbrev pub prose_answer : List ℕ → List ℕ
prose_answer [] = []
prose_answer (b ∷ []) = b ∷ []
prose_answer (b ∷ c ∷ text) = if b == backslash then pair_answer c ++ prose_answer text else b ∷ prose_answer (c ∷ text)

-- what becomes of prose: `\$` becomes `&#x24;`, and every other unit stays as it is
abbrev pub ProseAnswer : List ℕ → List ℕ → Type 0
ProseAnswer text answer = answer ≡ prose_answer text

-- what becomes of a piece: prose, or the `math` element of the body and of nothing else
abbrev pub PieceAnswer : Piece → List ℕ → Type 0
PieceAnswer (prose text) answer = ProseAnswer text answer
PieceAnswer (inline body) answer = IsRendering body Inline answer
PieceAnswer (display body) answer = IsRendering body Block answer

-- the answer is what becomes of the pieces, one after another
abbrev pub AreJoined : (Piece → List ℕ → Type 0) → List Piece → List ℕ → Type 0
AreJoined Becomes [] answer = answer ≡ []
AreJoined Becomes (piece ∷ pieces) answer =
    (front : List ℕ) × (back : List ℕ) × Becomes piece front × AreJoined Becomes pieces back × (answer ≡ front ++ back)

-- what becomes of pieces
abbrev pub PiecesAnswer : List Piece → List ℕ → Type 0
PiecesAnswer = AreJoined PieceAnswer

-- the answer of a document: that of its pieces
unfoldable pub IsAnswer : List ℕ → List ℕ → Type 0
IsAnswer document answer = (pieces : List Piece) × IsCut document pieces × PiecesAnswer pieces answer

-- The refusal.

-- the grammar refuses the piece's body; prose is never refused
abbrev pub PieceRefuses : Piece → Refusal → Type 0
PieceRefuses (prose text) refusal = ⊥
PieceRefuses (inline body) refusal = IsFormulaRefusal body refusal
PieceRefuses (display body) refusal = IsFormulaRefusal body refusal

-- a piece is refused, and each piece before it has an answer
abbrev pub FirstRefused : List Piece → Refusal → Type 0
FirstRefused [] refusal = ⊥
FirstRefused (piece ∷ pieces) refusal =
    PieceRefuses piece refusal ⊎ (((answer : List ℕ) × PieceAnswer piece answer) × FirstRefused pieces refusal)

-- the refusal of a document: that its dollar signs do not pair or, where they do, the refusal of its first refused formula
unfoldable pub IsRefusal : List ℕ → Refusal → Type 0
IsRefusal document refusal =
    (HasNoCut document × (refusal ≡ InvalidNumberOfDollarSigns)) ⊎ ((pieces : List Piece) × IsCut document pieces × FirstRefused pieces refusal)
