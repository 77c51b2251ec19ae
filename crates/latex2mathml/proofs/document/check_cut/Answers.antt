use Rattle.std.proofs.Common.{◌∷◌, [], ◌++◌}
use Rattle.latex2mathml.specs.Pieces.{piece_of}
use Rattle.latex2mathml.proofs.Cuts.{one_more_made, all_made}
use Rattle.latex2mathml.proofs.document.check_cut.Goals as goal

pub loop-piece-preserved : goal.loop-piece-preserved
loop-piece-preserved c =
    let so = c.loop-piece.invariant in (
      so.0 ++ piece_of c.in_ok-piece.field-0 ∷ [],
      one_more_made c.args.document.now so.0 c.loop-piece.piece-iterator.rest.now (piece_of c.in_ok-piece.field-0) c.next.new.self.rest.now so.1 (rw c.in_ok-piece.was at c.in-Some.ensures.steps),
    )

pub returns-clause-ok : goal.returns-clause-ok
returns-clause-ok c =
    let so = c.loop-piece.invariant in
    (so.0, all_made c.args.document.now so.0 c.loop-piece.piece-iterator.rest.now so.1 c.in-None.ensures.steps.0)
