-- The text is the answer of the pieces given so far.
use Rattle.std.proofs.Common.{List, string_bytes}
use Rattle.latex2mathml.specs.{Pieces.IsFront, Documents.Piece, Documents.PiecesAnswer}
use Rattle.latex2mathml.proofs.document.convert.append_pieces.Given as goal

abbrev pub invariant-loop-piece : goal.invariant-loop-piece
invariant-loop-piece l =
    (given : List Piece) × IsFront l.document given l.piece-iterator.rest.now × PiecesAnswer given (string_bytes l.text)
