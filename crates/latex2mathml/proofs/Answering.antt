-- A document is answered piece by piece, and refused for its first refused piece.
use Rattle.std.proofs.Common.{◌≡◌, ◌⊎◌, ℕ, List, [], ◌∷◌, ◌++◌, Option, Some, None, inl, inr, refl, sym, ap, ◌∙◌, append_assoc, append-nil, subst}
use Rattle.std.specs.Prelude.{IfSome}
use Rattle.latex2mathml.specs.Pieces.{BeginsWithPiece, IsFront}
use Rattle.latex2mathml.specs.Documents.{Piece, IsCut, HasCut, HasNoCut, PieceAnswer, PiecesAnswer, IsAnswer, PieceRefuses, FirstRefused, IsRefusal}
use Rattle.latex2mathml_tokens.specs.Refusal.{Refusal, InvalidNumberOfDollarSigns}
use Rattle.latex2mathml.proofs.Cuts.{first_forced}

-- what follows from each refusal follows from the one that an error reports
refused_more : (told : Option Refusal) (P Q : Refusal → Type 0) → ((refusal : Refusal) → P refusal → Q refusal) → IfSome told P → IfSome told Q
refused_more None P Q more h = tt
refused_more (Some refusal) P Q more h = more refusal h

-- the answer of a piece after those of the pieces before it
pub one_more_answer : (pieces : List Piece) (piece : Piece) (answer made new : List ℕ) → PiecesAnswer pieces answer → PieceAnswer piece made → new ≡ answer ++ made → PiecesAnswer (pieces ++ piece ∷ []) new
one_more_answer [] piece answer made new a b e = (made, [], b, refl, e ∙ ap (λ l. l ++ made) a ∙ sym (append-nil made))
one_more_answer (first ∷ pieces) piece answer made new (x, y, a, c, d) b e =
    (x, y ++ made, a, one_more_answer pieces piece y made (y ++ made) c b refl, e ∙ ap (λ l. l ++ made) d ∙ append_assoc x y made)

pub is_answer : (document answer : List ℕ) (pieces : List Piece) → IsCut document pieces → PiecesAnswer pieces answer → IsAnswer document answer
unfolding IsAnswer
is_answer document answer pieces cut a = (pieces, cut, a)

pub no_cut_refused : (document : List ℕ) → HasNoCut document → IsRefusal document InvalidNumberOfDollarSigns
unfolding IsRefusal
no_cut_refused document none = inl (none, refl)

-- where the pieces before it have answers, a refused piece is the first
first_refused : (given : List Piece) (piece : Piece) (later : List Piece) (answer : List ℕ) (refusal : Refusal) → PiecesAnswer given answer → PieceRefuses piece refusal → FirstRefused (given ++ piece ∷ later) refusal
first_refused [] piece later answer refusal a r = inl r
first_refused (first ∷ given) piece later answer refusal (x, y, a, b, e) r = inr ((x, a), first_refused given piece later y refusal b r)

-- a piece of a document is refused, and those given before it have answers
module _ (document : List ℕ) (given : List Piece) (text : List ℕ) (piece : Piece) (rest answer : List ℕ) (cut : HasCut document) (front : IsFront document given text) (begins : BeginsWithPiece text piece rest) (answered : PiecesAnswer given answer) where
  refused_with : (refusal : Refusal) → PieceRefuses piece refusal → IsRefusal document refusal
  unfolding IsRefusal
  refused_with refusal r =
      let behind = front.only cut.0 cut.1 in
      let next = first_forced text piece rest behind.0 begins behind.2 in
      let is : given ++ piece ∷ next.0 ≡ cut.0 = sym (behind.1 ∙ ap (λ l. given ++ l) next.1) in
      inr (cut.0, cut.1, subst (λ l. FirstRefused l refusal) is (first_refused given piece next.0 answer refusal answered r))

  -- the same for the refusal that an error reports, if any
  pub refused : (told : Option Refusal) → IfSome told (PieceRefuses piece) → IfSome told (IsRefusal document)
  refused told r = refused_more told (PieceRefuses piece) (IsRefusal document) refused_with r

-- the refusal that is reported if the first error, of a formula, may report another: dollar signs take precedence
pub dollars_first : (document : List ℕ) (reported told : Option Refusal) → (HasNoCut document × (reported ≡ Some InvalidNumberOfDollarSigns)) ⊎ (HasCut document × (reported ≡ told)) → (HasCut document → IfSome told (IsRefusal document)) → IfSome reported (IsRefusal document)
dollars_first document reported told (inl (none, is)) refused = rw is (no_cut_refused document none)
dollars_first document reported told (inr (cut, is)) refused = rw is (refused cut)
