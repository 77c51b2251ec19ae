-- The answer of a document holds no dollar sign, and a document without one is its own answer.
use Rattle.std.proofs.Common.{◌≡◌, ◌≢◌, ℕ, List, [], ◌∷◌, ◌++◌, Option, Some, None, Result, Ok, Err, Global, refl, sym, ◌∙◌, append-nil, subst, string_bytes, ⊎_elim}
use Rattle.std.specs.Prelude.{IfOk, IfSome, MatchResult, String}
use Rattle.latex2mathml.specs.DocumentLaws.{RepeatsAnswers}
use Rattle.latex2mathml.specs.Documents.{Piece, prose, inline, display, IsPiece, ArePieces, IsCut, PieceAnswer, PiecesAnswer, IsAnswer, FirstRefused, IsRefusal}
use Rattle.latex2mathml_grammar.specs.{Dollars.IsDollarFree, Dollars.free_both, RenderingLaws.RenderingsHold}
use Rattle.latex2mathml_tokens.specs.Refusal.{Refusal, IfRefused, refusal_of}
use Rattle.latex2mathml_tokens.specs.declared.DisplayStyle.TheVariants.{Block, Inline}
use Rattle.latex2mathml_tokens.specs.declared.error.LatexError.{LatexError}
use Rattle.latex2mathml.proofs.{Cuts.one_cut_lem, ProseTexts.free_plain, ProseTexts.free_prose, ProseTexts.free_stays}

-- An answer of pieces holds no dollar sign.
free_piece : RenderingsHold → (piece : Piece) (answer : List ℕ) → IsPiece piece → PieceAnswer piece answer → IsDollarFree answer
free_piece hold (prose text) answer i a = subst IsDollarFree (sym a) (free_prose text i.1)
free_piece hold (inline body) answer i a = hold.dollar_free body Inline answer a
free_piece hold (display body) answer i a = hold.dollar_free body Block answer a

free_answer : RenderingsHold → (pieces : List Piece) (answer : List ℕ) → ArePieces pieces → PiecesAnswer pieces answer → IsDollarFree answer
free_answer hold [] answer w a = subst IsDollarFree (sym a) refl
free_answer hold (piece ∷ pieces) answer w (x, y, a, b, e) = subst IsDollarFree (sym e) (free_both x y (free_piece hold piece x w.0 a) (free_answer hold pieces y w.2 b))

pub answer_free : RenderingsHold → (document answer : List ℕ) → IsAnswer document answer → IsDollarFree answer
unfolding IsAnswer
answer_free hold document answer (pieces, cut, a) = free_answer hold pieces answer cut.well_formed a

-- the pieces of a document without a dollar sign
pieces_of_free : List ℕ → List Piece
pieces_of_free [] = []
pieces_of_free (b ∷ bs) = prose (b ∷ bs) ∷ []

cut_of_free : (text : List ℕ) → IsDollarFree text → IsCut text (pieces_of_free text)
unfolding pieces_of_free
cut_of_free [] free = record { well_formed = tt; spelled = refl }
cut_of_free (b ∷ bs) free = record { well_formed = (((λ e. cc), free_plain (b ∷ bs) free), tt, tt); spelled = append-nil (b ∷ bs) }

answer_of_free : (text : List ℕ) → IsDollarFree text → PiecesAnswer (pieces_of_free text) text
unfolding pieces_of_free
answer_of_free [] free = refl
answer_of_free (b ∷ bs) free = (b ∷ bs, [], sym (free_stays (b ∷ bs) free), refl, sym (append-nil (b ∷ bs)))

only_answer_of_free : (text answer : List ℕ) → IsDollarFree text → PiecesAnswer (pieces_of_free text) answer → answer ≡ text
unfolding pieces_of_free
only_answer_of_free [] answer free a = a
only_answer_of_free (b ∷ bs) answer free (x, y, a, c, e) = e ∙ (λ i. (a ∙ free_stays (b ∷ bs) free) i ++ c i) ∙ append-nil (b ∷ bs)

-- a document without a dollar sign is its own answer, and has no other
pub own_answer : (text : List ℕ) → IsDollarFree text → IsAnswer text text
unfolding IsAnswer
own_answer text free = (pieces_of_free text, cut_of_free text free, answer_of_free text free)

-- a document with a dollar sign is not its own answer
pub differs : (text answer : List ℕ) → ¬ IsDollarFree text → IsDollarFree answer → answer ≢ text
differs text answer signs free e = signs (subst IsDollarFree e free)

pub no_other_answer : (text answer : List ℕ) → IsDollarFree text → IsAnswer text answer → answer ≡ text
unfolding IsAnswer
no_other_answer text answer free (pieces, cut, a) =
    only_answer_of_free text answer free (subst (λ ps. PiecesAnswer ps answer) (one_cut_lem pieces (pieces_of_free text) text cut (cut_of_free text free)) a)

-- the law
pub repeated : RenderingsHold → (document : List ℕ) → RepeatsAnswers document
repeated hold document answer a =
    let free = answer_free hold document answer a in
    record { dollar_free = free; own = own_answer answer free; no_other = λ other b. no_other_answer answer other free b }

-- a document without a dollar sign is not refused
no_formula : (text : List ℕ) (refusal : Refusal) → FirstRefused (pieces_of_free text) refusal → ⊥
unfolding pieces_of_free
no_formula [] refusal r = r
no_formula (b ∷ bs) refusal r = ⊎_elim (λ h. h) (λ h. h.1) r

pub never_refused : (text : List ℕ) (refusal : Refusal) → IsDollarFree text → IsRefusal text refusal → ⊥
unfolding IsRefusal
never_refused text refusal free r =
    ⊎_elim (λ none. none.0 (pieces_of_free text, cut_of_free text free))
    (λ formula. no_formula text refusal (subst (λ ps. FirstRefused ps refusal) (one_cut_lem formula.0 (pieces_of_free text) text formula.1 (cut_of_free text free)) formula.2)) r

-- what `replace` promises in addition to its answer and its refusal
pub free_result : RenderingsHold → (document : List ℕ) (result : Result (String Global) LatexError) → IfOk result (λ answer. IsAnswer document (string_bytes answer)) → IfOk result (λ answer. IsDollarFree (string_bytes answer))
free_result hold document (Ok answer) a = answer_free hold document (string_bytes answer) a
free_result hold document (Err error) a = tt

none_told : (document : List ℕ) (told : Option Refusal) → IsDollarFree document → IfSome told (IsRefusal document) → told ≡ None
none_told document None free r = refl
none_told document (Some refusal) free r = absurd (never_refused document refusal free r)

pub same_result : (document : List ℕ) (result : Result (String Global) LatexError) → IfOk result (λ answer. IsAnswer document (string_bytes answer)) → IfRefused result (IsRefusal document) → IsDollarFree document → MatchResult result (λ answer. string_bytes answer ≡ document) (λ error. refusal_of error ≡ None)
same_result document (Ok answer) a r free = no_other_answer document (string_bytes answer) free a
same_result document (Err error) a r free = none_told document (refusal_of error) free r
