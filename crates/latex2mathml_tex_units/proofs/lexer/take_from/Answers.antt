use Rattle.std.proofs.Common.{◌≤◌, length, sym, ◌∙◌, arith, rules}
use Rattle.std.specs.Str.{IsUtf8}
use Rattle.latex2mathml_tex_units.specs.Taking.{piece_of}
use Rattle.latex2mathml_tex_units.proofs.Taken.{comment_skipped, end_within, nothing_left, piece_taken, refused_some, refused_there}
use Rattle.latex2mathml_tex_units.proofs.lexer.take_from.Goals as goal

pub returns-in-Empty-clause-takes : goal.returns-in-Empty-clause-takes
returns-in-Empty-clause-takes c = (sym c.text.invariant.same ∙ nothing_left _ _ c.in-Empty.ensures.start, c.text.invariant.same)

pub overflow_sub-behind : goal.overflow_sub-behind
overflow_sub-behind c =
    let utf8 : IsUtf8 c.in-Piece.rest.now = search rules in
    let (w, e, spells) = c.in-Piece.ensures.start in
    end_within _ _ c.text.invariant.utf8 utf8 (w, e)

pub returns-in-Piece-clause-takes : goal.returns-in-Piece-clause-takes
returns-in-Piece-clause-takes c =
    let utf8 : IsUtf8 c.in-Piece.rest.now = search rules in
    let (w, e, spells) = c.in-Piece.ensures.start in
    sym c.text.invariant.same ∙ piece_taken _ _ _ w (piece_of c.in-Piece.piece) c.text.invariant.utf8 utf8 e spells

pub returns-in-Piece-clause-end : goal.returns-in-Piece-clause-end
returns-in-Piece-clause-end c =
    let utf8 : IsUtf8 c.in-Piece.rest.now = search rules in
    let (w, e, spells) = c.in-Piece.ensures.start in
    let within : length c.in-Piece.rest.now ≤ length c.text.text.now = end_within _ _ c.text.invariant.utf8 utf8 (w, e) in
    omega (arith, c.text.invariant.end)

pub overflow_sub-place : goal.overflow_sub-place
overflow_sub-place c =
    let utf8 : IsUtf8 c.in-Comment.rest.now = search rules in
    let (w, e, spells) = c.in-Comment.ensures.start in
    end_within _ _ c.text.invariant.utf8 utf8 (w, e)

pub text-preserved : goal.text-preserved
text-preserved c =
    let utf8 : IsUtf8 c.in-Comment.rest.now = search rules in
    let (w, e, spells) = c.in-Comment.ensures.start in
    let within : length c.in-Comment.rest.now ≤ length c.text.text.now = end_within _ _ c.text.invariant.utf8 utf8 (w, e) in
    record {
      utf8 = utf8;
      same = comment_skipped _ _ _ w c.text.invariant.utf8 utf8 e spells ∙ c.text.invariant.same;
      end = omega (arith, c.text.invariant.end);
    }

pub overflow_add-result : goal.overflow_add-result
overflow_add-result c =
    let some = refused_some 0 c.text.text.now _ (c.in-Fault.ensures.start 0) in
    omega (arith, some, c.in-Fault.ensures.near, c.text.invariant.end, c.requires)

pub returns-in-Fault-clause-takes : goal.returns-in-Fault-clause-takes
returns-in-Fault-clause-takes c = (sym c.text.invariant.same ∙ refused_there _ _ _ (c.in-Fault.ensures.start _), c.text.invariant.same)
