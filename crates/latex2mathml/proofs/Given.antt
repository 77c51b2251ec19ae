-- The pieces given so far are the front of the document.
use Rattle.std.proofs.Common.{◌≡◌, ℕ, List, [], ◌∷◌, ◌++◌, Some, Ok, Err, refl, sym, subst}
use Rattle.std.specs.Iterator.{Yields}
use Rattle.latex2mathml.specs.Pieces.{piece_of, BeginsWithPiece, Item, GivesPiece, GivenBehind, IsFront}
use Rattle.latex2mathml.specs.Documents.{Piece, prose, inline, display, piece_text, IsPiece}
use Rattle.latex2mathml.specs.declared.document.Pieces as code
use Rattle.latex2mathml.proofs.Cuts.{one_more_made, never_made}

-- no piece begins the empty text
nothing_begins : (p : Piece) (rest : List ℕ) → BeginsWithPiece [] p rest → ⊥
nothing_begins p rest b = go p b.is_piece b.split
  where
    go : (p : Piece) → IsPiece p → piece_text p ++ rest ≡ [] → ⊥
    go (prose []) i e = i.0 refl
    go (prose (a ∷ t)) i e = cc
    go (inline t) i e = cc
    go (display t) i e = cc

-- nothing is given after the last item
nothing_after : (item : Item) (s t : code.Pieces) → s.rest.now ≡ [] → GivesPiece s (Some item) t → ⊥
nothing_after (Ok piece) s t e b = nothing_begins (piece_of piece) t.rest.now (subst (λ text. BeginsWithPiece text (piece_of piece) t.rest.now) e b)
nothing_after (Err no_cut) s t e b = b.0 ([], record { well_formed = tt; spelled = sym e })

pub up_to : (given : List Item) (document : List ℕ) (before : List Piece) (s place : code.Pieces) → IsFront document before s.rest.now → Yields GivesPiece s given place → GivenBehind document before given place.rest.now
up_to [] document before s place f y = subst (λ (p : code.Pieces). IsFront document before p.rest.now) y f
up_to (Ok piece ∷ given) document before s place f (j, step, more) =
    up_to given document (before ++ piece_of piece ∷ []) j place (one_more_made document before s.rest.now (piece_of piece) j.rest.now f step) more
up_to (Err no_cut ∷ []) document before s place f (j, step, more) = never_made document before s.rest.now f step.0
up_to (Err no_cut ∷ item ∷ given) document before s place f (j, step, (k, step2, more)) = nothing_after item j k step.1 step2
