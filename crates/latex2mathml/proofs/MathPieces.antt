-- Each formula of a document has one `math` element in the answer.
use Rattle.std.proofs.Common.{ℕ, List, [], ◌∷◌}
use Rattle.latex2mathml.specs.DocumentLaws.{HasElements, IsPieceMarkup}
use Rattle.latex2mathml.specs.Documents.{AreJoined, Piece, prose, inline, display, IsAnswer, PiecesAnswer}
use Rattle.latex2mathml_grammar.specs.RenderingLaws.{RenderingsHold}
use Rattle.latex2mathml_tokens.specs.declared.DisplayStyle.TheVariants.{Block, Inline}

module _ (hold : RenderingsHold) where
  pieces_markup : (pieces : List Piece) (answer : List ℕ) → PiecesAnswer pieces answer → AreJoined IsPieceMarkup pieces answer
  pieces_markup [] answer a = a
  pieces_markup (prose text ∷ pieces) answer (x, y, a, b, e) = (x, y, a, pieces_markup pieces y b, e)
  pieces_markup (inline body ∷ pieces) answer (x, y, a, b, e) = (x, y, (a, hold.elements body Inline x a), pieces_markup pieces y b, e)
  pieces_markup (display body ∷ pieces) answer (x, y, a, b, e) = (x, y, (a, hold.elements body Block x a), pieces_markup pieces y b, e)

  -- the law
  pub elements : (document answer : List ℕ) → IsAnswer document answer → HasElements document answer
  unfolding IsAnswer
  elements document answer (pieces, cut, a) = (pieces, cut, pieces_markup pieces answer a)
