-- Each document has exactly one answer or exactly one refusal.
use Rattle.std.proofs.Common.{◌≡◌, ◌≢◌, ◌⊎◌, ◌↔◌, ℕ, zero, suc, ◌<◌, ◌≤◌, List, [], ◌∷◌, ◌++◌, length, length-append, ⊎_elim, inl, inr, refl, sym, ap, ◌∙◌, append_assoc, arith, subst}
use Rattle.latex2mathml.specs.{DocumentLaws.HasOneOutcome, DocumentLaws.IsForDollars, Pieces.BeginsWithPiece, Pieces.EndsBefore}
use Rattle.latex2mathml.specs.Documents.{Piece, prose, inline, display, piece_text, IsPlain, IsPiece, HasCut, HasNoCut, PieceAnswer, PiecesAnswer, IsAnswer, PieceRefuses, FirstRefused, IsRefusal, prose_answer}
use Rattle.latex2mathml_grammar.specs.{Dollars.dollar, RenderingLaws.RenderingsHold}
use Rattle.latex2mathml_tokens.specs.Refusal.{Refusal, InvalidNumberOfDollarSigns}
use Rattle.latex2mathml_tokens.specs.declared.DisplayStyle.TheVariants.{Block, Inline}
use Rattle.latex2mathml.proofs.Cuts.{begins_with_prose, first_forced, more_cut, no_display, no_inline, one_cut_lem}
use Rattle.latex2mathml.proofs.PlainTexts.{dollar_or_other, plain_front}

-- the first piece of a text, or that it has no cut
abbrev Found : List ℕ → Type 0
Found text = ((piece : Piece) × (rest : List ℕ) × BeginsWithPiece text piece rest) ⊎ HasNoCut text

found_prose : (b : ℕ) (text : List ℕ) → b ≢ dollar → Found (b ∷ text)
found_prose b text other =
    let front = plain_front (b ∷ text) in
    inl (prose front.0, front.1, begins_with_prose (b ∷ text) front.0 front.1 (λ e. cc) (λ more e. other (let k : b ≡ dollar = cc in k)) front.2 front.3 front.4)

found_inline : (text : List ℕ) → ((more : List ℕ) → text ≢ dollar ∷ more) → Found (dollar ∷ text)
found_inline text lone =
    let front = plain_front text in
    by front.0 front.1 front.2 front.3 front.4
  where
    by : (body end : List ℕ) → body ++ end ≡ text → IsPlain body → EndsBefore body end → Found (dollar ∷ text)
    by body [] j p s = inr (no_inline (dollar ∷ text) text body [] refl (λ rest e. lone rest (cc)) j p s (λ rest e. cc))
    by [] (b ∷ end) j p s = absurd (lone end (sym j ∙ ap (λ c. c ∷ end) s.0))
    by (a ∷ body) (b ∷ end) j p s = inl (
      inline (a ∷ body),
      end,
      record {
        is_piece = ((λ e. cc), s.1);
        split = ap (λ l. dollar ∷ l) (append_assoc (a ∷ body) (dollar ∷ []) end ∙ ap (λ c. (a ∷ body) ++ c ∷ end) (sym s.0) ∙ j);
        longest = tt;
      },
    )

found_display : (text : List ℕ) → Found (dollar ∷ dollar ∷ text)
found_display text =
    let front = plain_front text in
    by front.0 front.1 front.2 front.3 front.4
  where
    never : (body end : List ℕ) → body ++ end ≡ text → IsPlain body → EndsBefore body end → (body ≡ []) ⊎ ((rest : List ℕ) → end ≢ dollar ∷ dollar ∷ rest) → Found (dollar ∷ dollar ∷ text)
    never body end j p s n = inr (no_display (dollar ∷ dollar ∷ text) text body end refl j p s n)

    by : (body end : List ℕ) → body ++ end ≡ text → IsPlain body → EndsBefore body end → Found (dollar ∷ dollar ∷ text)
    by body [] j p s = never body [] j p s (inr (λ rest e. cc))
    by body (b ∷ []) j p s = never body (b ∷ []) j p s (inr (λ rest e. cc))
    by [] (b ∷ c ∷ end) j p s = never [] (b ∷ c ∷ end) j p s (inl refl)
    by (a ∷ body) (b ∷ c ∷ end) j p s =
        ⊎_elim (λ sign. inl (
          display (a ∷ body),
          end,
          record {
            is_piece = ((λ e. cc), s.1);
            split = ap (λ l. dollar ∷ dollar ∷ l) (append_assoc (a ∷ body) (dollar ∷ dollar ∷ []) end ∙ (λ i. (a ∷ body) ++ sym s.0 i ∷ sym sign i ∷ end) ∙ j);
            longest = tt;
          },
        ))
        (λ other. never (a ∷ body) (b ∷ c ∷ end) j p s (inr (λ rest e. other (let k : c ≡ dollar = cc in k)))) (dollar_or_other c)

found : (text : List ℕ) → text ≢ [] → Found text
found [] some = absurd (some refl)
found (b ∷ []) some =
    ⊎_elim (λ sign. subst (λ c. Found (c ∷ [])) (sym sign) (found_inline [] (λ more e. cc))) (found_prose b []) (dollar_or_other b)
found (b ∷ c ∷ text) some =
    ⊎_elim (λ sign. subst (λ d. Found (d ∷ c ∷ text)) (sym sign)
    (⊎_elim (λ second. subst (λ d. Found (dollar ∷ d ∷ text)) (sym second) (found_display text))
    (λ other. found_inline (c ∷ text) (λ more e. other (let k : c ≡ dollar = cc in k))) (dollar_or_other c)))
    (found_prose b (c ∷ text)) (dollar_or_other b)

-- a piece is not empty
taken : (piece : Piece) (rest : List ℕ) → IsPiece piece → length rest < length (piece_text piece ++ rest)
taken (prose []) rest is = absurd (is.0 refl)
taken (prose (a ∷ text)) rest is = omega (arith, length-append text rest)
taken (inline body) rest is = omega (arith, length-append (body ++ dollar ∷ []) rest)
taken (display body) rest is = omega (arith, length-append (body ++ dollar ∷ dollar ∷ []) rest)

cut_within : (bound : ℕ) (text : List ℕ) → length text ≤ bound → HasCut text ⊎ HasNoCut text
cut_within bound [] short = inl ([], record { well_formed = tt; spelled = refl })
cut_within zero (b ∷ text) short = absurd (omega arith)
cut_within (suc bound) (b ∷ text) short =
    ⊎_elim (λ first. behind first.0 first.1 first.2 (λ less. cut_within bound first.1 less)) (λ none. inr none) (found (b ∷ text) (λ e. cc))
  where
    behind : (piece : Piece) (rest : List ℕ) → BeginsWithPiece (b ∷ text) piece rest → (length rest ≤ bound → HasCut rest ⊎ HasNoCut rest) → HasCut (b ∷ text) ⊎ HasNoCut (b ∷ text)
    behind piece rest begins later =
        let less : length rest < length (b ∷ text) = subst (λ l. length rest < length l) begins.split (taken piece rest begins.is_piece) in
        ⊎_elim (λ cut. inl (piece ∷ cut.0, more_cut (b ∷ text) piece rest cut.0 begins cut.1))
        (λ none. inr (λ cut. (let on = first_forced (b ∷ text) piece rest cut.0 begins cut.1 in none (on.0, on.2)))) (later (omega arith))

-- by the laws of formulas
module _ (hold : RenderingsHold) where
  piece_outcome : (piece : Piece) → ((answer : List ℕ) × PieceAnswer piece answer) ⊎ ((refusal : Refusal) × PieceRefuses piece refusal)
  piece_outcome (prose text) = inl (prose_answer text, refl)
  piece_outcome (inline body) = (hold.one_rendering body Inline).some
  piece_outcome (display body) = (hold.one_rendering body Block).some

  pieces_outcome : (pieces : List Piece) → ((answer : List ℕ) × PiecesAnswer pieces answer) ⊎ ((refusal : Refusal) × FirstRefused pieces refusal)
  pieces_outcome [] = inl ([], refl)
  pieces_outcome (piece ∷ pieces) =
      ⊎_elim (λ first. ⊎_elim (λ later. inl (first.0 ++ later.0, (first.0, later.0, first.1, later.1, refl))) (λ later. inr (later.0, inr (first, later.1))) (pieces_outcome pieces))
      (λ refused. inr (refused.0, inl refused.1)) (piece_outcome piece)

  some_outcome : (document : List ℕ) → ((answer : List ℕ) × IsAnswer document answer) ⊎ ((refusal : Refusal) × IsRefusal document refusal)
  unfolding IsAnswer IsRefusal
  some_outcome document =
      ⊎_elim (λ cut. ⊎_elim (λ answered. inl (answered.0, (cut.0, cut.1, answered.1))) (λ refused. inr (refused.0, inr (cut.0, cut.1, refused.1))) (pieces_outcome cut.0))
      (λ none. inr (InvalidNumberOfDollarSigns, inl (none, refl))) (cut_within (length document) document (omega arith))

  piece_once : (piece : Piece) (answer other : List ℕ) → PieceAnswer piece answer → PieceAnswer piece other → answer ≡ other
  piece_once (prose text) answer other a b = a ∙ sym b
  piece_once (inline body) answer other a b = (hold.one_rendering body Inline).one_rendering answer other a b
  piece_once (display body) answer other a b = (hold.one_rendering body Block).one_rendering answer other a b

  pieces_once : (pieces : List Piece) (answer other : List ℕ) → PiecesAnswer pieces answer → PiecesAnswer pieces other → answer ≡ other
  pieces_once [] answer other a b = a ∙ sym b
  pieces_once (piece ∷ pieces) answer other (x, y, a, b, e) (z, w, c, d, f) = e ∙ (λ i. piece_once piece x z a c i ++ pieces_once pieces y w b d i) ∙ sym f

  piece_refused_once : (piece : Piece) (refusal other : Refusal) → PieceRefuses piece refusal → PieceRefuses piece other → refusal ≡ other
  piece_refused_once (prose text) refusal other a b = absurd a
  piece_refused_once (inline body) refusal other a b = (hold.one_rendering body Inline).one_refusal refusal other a b
  piece_refused_once (display body) refusal other a b = (hold.one_rendering body Block).one_refusal refusal other a b

  never_both : (piece : Piece) (answer : List ℕ) (refusal : Refusal) → PieceAnswer piece answer → PieceRefuses piece refusal → ⊥
  never_both (prose text) answer refusal a r = r
  never_both (inline body) answer refusal a r = (hold.one_rendering body Inline).never_both answer refusal a r
  never_both (display body) answer refusal a r = (hold.one_rendering body Block).never_both answer refusal a r

  first_once : (pieces : List Piece) (refusal other : Refusal) → FirstRefused pieces refusal → FirstRefused pieces other → refusal ≡ other
  first_once [] refusal other a b = absurd a
  first_once (piece ∷ pieces) refusal other a b =
      ⊎_elim (λ here. ⊎_elim (λ same. piece_refused_once piece refusal other here same) (λ later. absurd (never_both piece later.0.0 refusal later.0.1 here)) b)
      (λ later. ⊎_elim (λ here. absurd (never_both piece later.0.0 other later.0.1 here)) (λ same. first_once pieces refusal other later.1 same.1) b) a

  all_answered : (pieces : List Piece) (answer : List ℕ) (refusal : Refusal) → PiecesAnswer pieces answer → FirstRefused pieces refusal → ⊥
  all_answered [] answer refusal a r = r
  all_answered (piece ∷ pieces) answer refusal (x, y, a, b, e) r =
      ⊎_elim (λ here. never_both piece x refusal a here) (λ later. all_answered pieces y refusal b later.1) r

  one_answer : (document answer other : List ℕ) → IsAnswer document answer → IsAnswer document other → answer ≡ other
  unfolding IsAnswer
  one_answer document answer other (ps, c, a) (qs, d, b) =
      pieces_once ps answer other a (subst (λ l. PiecesAnswer l other) (one_cut_lem qs ps document d c) b)

  one_refusal : (document : List ℕ) (refusal other : Refusal) → IsRefusal document refusal → IsRefusal document other → refusal ≡ other
  unfolding IsRefusal
  one_refusal document refusal other a b =
      ⊎_elim (λ none. ⊎_elim (λ same. none.1 ∙ sym same.1) (λ formula. absurd (none.0 (formula.0, formula.1))) b)
      (λ formula. ⊎_elim (λ none. absurd (none.0 (formula.0, formula.1))) (λ same. first_once formula.0 refusal other formula.2 (subst (λ l. FirstRefused l other) (one_cut_lem same.0 formula.0 document same.1 formula.1) same.2)) b) a

  answered_or_refused : (document answer : List ℕ) (refusal : Refusal) → IsAnswer document answer → IsRefusal document refusal → ⊥
  unfolding IsAnswer IsRefusal
  answered_or_refused document answer refusal (ps, c, a) r =
      ⊎_elim (λ none. none.0 (ps, c)) (λ formula. all_answered ps answer refusal a (subst (λ l. FirstRefused l refusal) (one_cut_lem formula.0 ps document formula.1 c) formula.2)) r

  -- the law
  pub one_outcome : (document : List ℕ) → HasOneOutcome document
  one_outcome document = record {
    some = some_outcome document;
    one_answer = one_answer document;
    one_refusal = one_refusal document;
    never_both = answered_or_refused document;
  }

  -- no formula is refused for its dollar signs, so a document is refused for them only where it has no cut
  first_is_other : (pieces : List Piece) (refusal : Refusal) → FirstRefused pieces refusal → refusal ≢ InvalidNumberOfDollarSigns
  first_is_other [] refusal r = absurd r
  first_is_other (prose text ∷ pieces) refusal (inl r) = absurd r
  first_is_other (inline body ∷ pieces) refusal (inl r) = hold.never_for_dollars body refusal r
  first_is_other (display body ∷ pieces) refusal (inl r) = hold.never_for_dollars body refusal r
  first_is_other (piece ∷ pieces) refusal (inr r) = first_is_other pieces refusal r.1

  refused_for_dollars : (document : List ℕ) (refusal : Refusal) → IsRefusal document refusal → (refusal ≡ InvalidNumberOfDollarSigns) ↔ HasNoCut document
  unfolding IsRefusal
  refused_for_dollars document refusal (inl (none, same)) = (λ e. none, λ h. same)
  refused_for_dollars document refusal (inr (pieces, cut, first)) = (λ e. absurd (first_is_other pieces refusal first e), λ none. absurd (none (pieces, cut)))

  answered_cut : (document answer : List ℕ) → IsAnswer document answer → HasCut document
  unfolding IsAnswer
  answered_cut document answer (pieces, cut, a) = (pieces, cut)

  -- the law
  pub for_dollars : (document : List ℕ) → IsForDollars document
  for_dollars document = record { refused = refused_for_dollars document; answered = answered_cut document }
