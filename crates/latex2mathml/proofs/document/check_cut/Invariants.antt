use Rattle.std.proofs.Common.{List}
use Rattle.latex2mathml.specs.{Documents.Piece, Pieces.IsFront}
use Rattle.latex2mathml.proofs.document.check_cut.Given as goal

abbrev pub invariant-loop-piece : goal.invariant-loop-piece
invariant-loop-piece l = (given : List Piece) × IsFront l.document given l.piece-iterator.rest.now
