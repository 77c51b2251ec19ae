use Rattle.std.proofs.Common.{◌∷◌, [], ◌++◌}
use Rattle.std.proofs.lemmas.Result.{err_from_is_err_and}
use Rattle.latex2mathml.specs.Pieces.{piece_of}
use Rattle.latex2mathml_tokens.specs.Refusal.{refusal_of}
use Rattle.latex2mathml.proofs.Answering.{dollars_first, is_answer, no_cut_refused, one_more_answer, refused}
use Rattle.latex2mathml.proofs.Cuts.{all_made, never_made, one_more_made}
use Rattle.latex2mathml.proofs.document.convert.append_pieces.Goals as goal

pub returns-in_err-piece-clause-refusal : goal.returns-in_err-piece-clause-refusal
returns-in_err-piece-clause-refusal c =
    let so = c.loop-piece.invariant in
    let p = err_from_is_err_and c.from_residual.result c.from_residual.ensures.1 in
    let none = (rw c.in_err-piece.was at c.in-Some.ensures.steps).0 in
    rw (p.1, p.2) (no_cut_refused c.args.document.now (never_made c.args.document.now so.0 c.loop-piece.piece-iterator.rest.now so.1 none))

pub loop-piece-preserved : goal.loop-piece-preserved
loop-piece-preserved c =
    let so = c.loop-piece.invariant in
    let made = c.in_default.ensures.answer in
    let piece = piece_of c.in_ok-piece.piece in (
      so.0 ++ piece ∷ [],
      one_more_made c.args.document.now so.0 c.loop-piece.piece-iterator.rest.now piece c.next.new.self.rest.now so.1 (rw c.in_ok-piece.was at c.in-Some.ensures.steps),
      one_more_answer so.0 piece _ made.0 _ so.2 made.1 made.2,
    )

pub returns-in-Err-clause-refusal : goal.returns-in-Err-clause-refusal
returns-in-Err-clause-refusal c =
    let so = c.loop-piece.invariant in
    dollars_first c.args.document.now _ (refusal_of c.in-Err.error) c.refusal.ensures (λ cut.
    refused c.args.document.now so.0 c.loop-piece.piece-iterator.rest.now _ c.next.new.self.rest.now _ cut so.1 (rw c.in_ok-piece.was at c.in-Some.ensures.steps) so.2 (refusal_of c.in-Err.error) c.in-Err.ensures.refusal)

pub returns-clause-answer : goal.returns-clause-answer
returns-clause-answer c =
    let so = c.loop-piece.invariant in
    is_answer c.args.document.now _ so.0 (all_made c.args.document.now so.0 c.loop-piece.piece-iterator.rest.now so.1 c.in-None.ensures.steps.0) so.2
