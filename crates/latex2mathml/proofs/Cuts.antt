-- Each document has at most one cut, and a piece at its front is the first of it.
use Rattle.std.proofs.Common.{◌≡◌, ◌≢◌, ℕ, List, [], ◌∷◌, ◌++◌, ◌⊎◌, eqb, length, true, true-eqb, refl, sym, ap, ◌∙◌, append_assoc, append-nil, ⊎_elim, subst}
use Rattle.std.specs.Prelude.{Option, Some, None, IfNone}
use Rattle.latex2mathml.specs.Pieces.{BeginsWithPiece, EndsBefore, IsFront, IsLongest}
use Rattle.latex2mathml.specs.Documents.{Piece, prose, inline, display, piece_text, spelling, IsPlain, IsPiece, MayFollow, ArePieces, IsCut, HasCut}
use Rattle.latex2mathml.proofs.PlainTexts.{plain_begins, plain_ends_once, body_plain, body_ends, ends_before_head}

-- what may follow prose begins with a dollar sign, or is empty
pub stops_after : (t : List ℕ) (ps : List Piece) → MayFollow (prose t) ps → EndsBefore t (spelling ps)
stops_after t [] f = tt
stops_after t (prose u ∷ ps) f = absurd f
stops_after t (inline b ∷ ps) f = (refl, f)
stops_after t (display b ∷ ps) f = (refl, f)

-- a piece and a cut of the rest form a cut
pub more_cut : (text : List ℕ) (p : Piece) (rest : List ℕ) (ps : List Piece) → BeginsWithPiece text p rest → IsCut rest ps → IsCut text (p ∷ ps)
more_cut text p rest ps b c = record {
  well_formed = (b.is_piece, follows p ps b.longest c.well_formed (sym c.spelled), c.well_formed);
  spelled = ap (λ l. piece_text p ++ l) c.spelled ∙ b.split;
}
  where
    follows : (p : Piece) (ps : List Piece) → IsLongest p rest → ArePieces ps → rest ≡ spelling ps → MayFollow p ps
    follows (prose t) [] e w s = tt
    follows (prose t) (prose [] ∷ ps) e w s = absurd (w.0.0 refl)
    follows (prose t) (prose (a ∷ u) ∷ ps) e w s = absurd (plain_begins a u w.0.1 (ends_before_head t a (u ++ spelling ps) (subst (EndsBefore t) s e)))
    follows (prose t) (inline u ∷ ps) e w s = (subst (EndsBefore t) s e).1
    follows (prose t) (display u ∷ ps) e w s = (subst (EndsBefore t) s e).1
    follows (inline t) ps e w s = tt
    follows (display t) ps e w s = tt

-- what every cut of a text looks like if the text begins with this piece
abbrev pub GoesOn : List Piece → Piece → List ℕ → Type 0
GoesOn ps p rest = (tail : List Piece) × (ps ≡ p ∷ tail) × IsCut rest tail

forced : (p : Piece) (rest : List ℕ) (ps : List Piece) → IsPiece p → IsLongest p rest → ArePieces ps → spelling ps ≡ piece_text p ++ rest → GoesOn ps p rest
forced (prose []) rest ps i s w e = absurd (i.0 refl)
forced (prose (a ∷ t)) rest [] i s w e = cc
forced (prose (a ∷ t)) rest (prose u ∷ ps) i s w e =
    let ends = plain_ends_once u (a ∷ t) (spelling ps) rest w.0.1 i.1 (stops_after u ps w.1) s e in
    (ps, ap (λ l. prose l ∷ ps) ends.0, record { well_formed = w.2; spelled = ends.1 })
forced (prose (a ∷ t)) rest (inline u ∷ ps) i s w e = absurd (plain_begins a t i.1 (cc))
forced (prose (a ∷ t)) rest (display u ∷ ps) i s w e = absurd (plain_begins a t i.1 (cc))
forced (inline []) rest ps i s w e = absurd (i.0 refl)
forced (inline (a ∷ t)) rest [] i s w e = cc
forced (inline (a ∷ t)) rest (prose [] ∷ ps) i s w e = absurd (w.0.0 refl)
forced (inline (a ∷ t)) rest (prose (b ∷ u) ∷ ps) i s w e = absurd (plain_begins b u w.0.1 (cc))
forced (inline (a ∷ t)) rest (inline u ∷ ps) i s w e =
    let e' : u ++ (36 ∷ spelling ps) ≡ (a ∷ t) ++ (36 ∷ rest) = sym (append_assoc u (36 ∷ []) (spelling ps)) ∙ (let k : (u ++ 36 ∷ []) ++ spelling ps ≡ ((a ∷ t) ++ 36 ∷ []) ++ rest = cc in k) ∙ append_assoc (a ∷ t) (36 ∷ []) rest in
    let ends = plain_ends_once u (a ∷ t) (36 ∷ spelling ps) (36 ∷ rest) (body_plain u w.0) (body_plain _ i) (body_ends u (spelling ps) w.0) (body_ends (a ∷ t) rest i) e' in
    (ps, ap (λ l. inline l ∷ ps) ends.0, record { well_formed = w.2; spelled = (let k : spelling ps ≡ rest = cc (ends.1) in k) })
forced (inline (a ∷ t)) rest (display u ∷ ps) i s w e = absurd (plain_begins a t (body_plain _ i) (cc))
forced (display []) rest ps i s w e = absurd (i.0 refl)
forced (display (a ∷ t)) rest [] i s w e = cc
forced (display (a ∷ t)) rest (prose [] ∷ ps) i s w e = absurd (w.0.0 refl)
forced (display (a ∷ t)) rest (prose (b ∷ u) ∷ ps) i s w e = absurd (plain_begins b u w.0.1 (cc))
forced (display (a ∷ t)) rest (inline [] ∷ ps) i s w e = absurd (w.0.0 refl)
forced (display (a ∷ t)) rest (inline (b ∷ u) ∷ ps) i s w e = absurd (plain_begins b u (body_plain _ w.0) (cc))
forced (display (a ∷ t)) rest (display u ∷ ps) i s w e =
    let e' : u ++ (36 ∷ 36 ∷ spelling ps) ≡ (a ∷ t) ++ (36 ∷ 36 ∷ rest) = sym (append_assoc u (36 ∷ 36 ∷ []) (spelling ps)) ∙ (let k : (u ++ 36 ∷ 36 ∷ []) ++ spelling ps ≡ ((a ∷ t) ++ 36 ∷ 36 ∷ []) ++ rest = cc in k) ∙ append_assoc (a ∷ t) (36 ∷ 36 ∷ []) rest in
    let ends = plain_ends_once u (a ∷ t) (36 ∷ 36 ∷ spelling ps) (36 ∷ 36 ∷ rest) (body_plain u w.0) (body_plain _ i) (body_ends u (36 ∷ spelling ps) w.0) (body_ends (a ∷ t) (36 ∷ rest) i) e' in
    (ps, ap (λ l. display l ∷ ps) ends.0, record { well_formed = w.2; spelled = (let k : spelling ps ≡ rest = cc (ends.1) in k) })

-- each cut of a text that begins with a piece begins with that piece
pub first_forced : (text : List ℕ) (p : Piece) (rest : List ℕ) (ps : List Piece) → BeginsWithPiece text p rest → IsCut text ps → GoesOn ps p rest
first_forced text p rest ps b c = forced p rest ps b.is_piece b.longest c.well_formed (c.spelled ∙ sym b.split)

-- the only cut of the empty document has no pieces
pub cut_of_nothing : (ps : List Piece) → IsCut [] ps → ps ≡ []
cut_of_nothing [] c = refl
cut_of_nothing (prose [] ∷ ps) c = absurd (c.well_formed.0.0 refl)
cut_of_nothing (prose (a ∷ t) ∷ ps) c = let e = c.spelled in cc
cut_of_nothing (inline t ∷ ps) c = let e = c.spelled in cc
cut_of_nothing (display t ∷ ps) c = let e = c.spelled in cc

-- a cut's first piece begins its text
pub begins_with_first : (text : List ℕ) (p : Piece) (ps : List Piece) → IsCut text (p ∷ ps) → BeginsWithPiece text p (spelling ps)
begins_with_first text (prose t) ps c = record { is_piece = c.well_formed.0; split = c.spelled; longest = stops_after t ps c.well_formed.1 }
begins_with_first text (inline t) ps c = record { is_piece = c.well_formed.0; split = c.spelled; longest = tt }
begins_with_first text (display t) ps c = record { is_piece = c.well_formed.0; split = c.spelled; longest = tt }

-- a document has at most one cut
pub one_cut_lem : (ps qs : List Piece) (text : List ℕ) → IsCut text ps → IsCut text qs → ps ≡ qs
one_cut_lem [] qs text c d = sym (cut_of_nothing qs (subst (λ (t : List ℕ). IsCut t qs) (sym c.spelled) d))
one_cut_lem (p ∷ ps) qs text c d =
    let on = first_forced text p (spelling ps) qs (begins_with_first text p ps c) d in
    ap (λ l. p ∷ l) (one_cut_lem ps on.0 (spelling ps) (record { well_formed = c.well_formed.2; spelled = refl }) on.2) ∙ sym on.1

-- no body that ends at two dollar signs follows the first two
pub no_display : (text inside body end : List ℕ) → text ≡ 36 ∷ 36 ∷ inside → body ++ end ≡ inside → IsPlain body → EndsBefore body end → (body ≡ []) ⊎ ((rest : List ℕ) → end ≢ 36 ∷ 36 ∷ rest) → HasCut text → ⊥
no_display text inside body end e j p s n (ps, c) = go ps c.well_formed (c.spelled ∙ e)
  where
    go : (ps : List Piece) → ArePieces ps → spelling ps ≡ 36 ∷ 36 ∷ inside → ⊥
    go [] w q = cc
    go (prose [] ∷ ps) w q = w.0.0 refl
    go (prose (a ∷ t) ∷ ps) w q = plain_begins a t w.0.1 (cc)
    go (inline [] ∷ ps) w q = w.0.0 refl
    go (inline (a ∷ t) ∷ ps) w q = plain_begins a t (body_plain _ w.0) (cc)
    go (display u ∷ ps) w q =
        let q' : (u ++ 36 ∷ 36 ∷ []) ++ spelling ps ≡ inside = cc in
        let ends = plain_ends_once u body (36 ∷ 36 ∷ spelling ps) end (body_plain u w.0) p (body_ends u (36 ∷ spelling ps) w.0) s (sym (append_assoc u (36 ∷ 36 ∷ []) (spelling ps)) ∙ q' ∙ sym j) in
        ⊎_elim (λ nothing. w.0.0 (ends.0 ∙ nothing)) (λ other. other (spelling ps) (sym ends.1)) n

-- no body that ends at a dollar sign follows a lone dollar sign
pub no_inline : (text inside body end : List ℕ) → text ≡ 36 ∷ inside → ((rest : List ℕ) → inside ≢ 36 ∷ rest) → body ++ end ≡ inside → IsPlain body → EndsBefore body end → ((rest : List ℕ) → end ≢ 36 ∷ rest) → HasCut text → ⊥
no_inline text inside body end e lone j p s n (ps, c) = go ps c.well_formed (c.spelled ∙ e)
  where
    go : (ps : List Piece) → ArePieces ps → spelling ps ≡ 36 ∷ inside → ⊥
    go [] w q = cc
    go (prose [] ∷ ps) w q = w.0.0 refl
    go (prose (a ∷ t) ∷ ps) w q = plain_begins a t w.0.1 (cc)
    go (inline u ∷ ps) w q =
        let q' : (u ++ 36 ∷ []) ++ spelling ps ≡ inside = cc in
        let ends = plain_ends_once u body (36 ∷ spelling ps) end (body_plain u w.0) p (body_ends u (spelling ps) w.0) s (sym (append_assoc u (36 ∷ []) (spelling ps)) ∙ q' ∙ sym j) in
        n (spelling ps) (sym ends.1)
    go (display u ∷ ps) w q = lone ((u ++ 36 ∷ 36 ∷ []) ++ spelling ps) (cc)

-- text that begins with no dollar sign begins with prose
pub begins_with_prose : (text front rest : List ℕ) → text ≢ [] → ((more : List ℕ) → text ≢ 36 ∷ more) → front ++ rest ≡ text → IsPlain front → EndsBefore front rest → BeginsWithPiece text (prose front) rest
begins_with_prose text front rest some no_dollar j p s = record { is_piece = (holds_something front rest j s, p); split = j; longest = s }
  where
    holds_something : (front rest : List ℕ) → front ++ rest ≡ text → EndsBefore front rest → front ≢ []
    holds_something (a ∷ front) rest j s e = cc
    holds_something [] [] j s e = some (sym j)
    holds_something [] (b ∷ rest) j s e = no_dollar rest (sym j ∙ ap (λ x. x ∷ rest) (ends_before_head [] b rest s))

pub if_none : {X : Type 0} {P : Type 0} (r : Option X) → P → IfNone r P
if_none None p = p
if_none (Some x) p = tt

pub nothing_in : (s : List ℕ) → true ≡ eqb (length s) 0 → s ≡ []
nothing_in [] e = refl
nothing_in (b ∷ s) e = absurd (let k : length (b ∷ s) ≡ 0 = true-eqb _ _ e in cc)

spelling_push : (made : List Piece) (p : Piece) → spelling (made ++ p ∷ []) ≡ spelling made ++ piece_text p
spelling_push [] p = append-nil (piece_text p)
spelling_push (q ∷ made) p = ap (λ l. piece_text q ++ l) (spelling_push made p) ∙ sym (append_assoc (piece_text q) (spelling made) (piece_text p))

pub nothing_made : (document : List ℕ) → IsFront document [] document
nothing_made document = record { spelled = refl; goes_on = λ tail c. c; only = λ pieces c. (pieces, refl, c) }

pub one_more_made : (document : List ℕ) (made : List Piece) (text : List ℕ) (p : Piece) (rest : List ℕ) → IsFront document made text → BeginsWithPiece text p rest → IsFront document (made ++ p ∷ []) rest
one_more_made document made text p rest so b = record {
  spelled = ap (λ l. l ++ rest) (spelling_push made p) ∙ append_assoc (spelling made) (piece_text p) rest ∙ ap (λ l. spelling made ++ l) b.split ∙ so.spelled;
  goes_on = λ tail c. subst (IsCut document) (sym (append_assoc made (p ∷ []) tail)) (so.goes_on (p ∷ tail) (more_cut text p rest tail b c));
  only = λ pieces c.
      let first = so.only pieces c in
      let next = first_forced text p rest first.0 b first.2 in
      (next.0, first.1 ∙ ap (λ l. made ++ l) next.1 ∙ sym (append_assoc made (p ∷ []) next.0), next.2);
}

pub all_made : (document : List ℕ) (made : List Piece) (rest : List ℕ) → IsFront document made rest → rest ≡ [] → IsCut document made
all_made document made rest so e = subst (IsCut document) (append-nil made) (so.goes_on [] (record { well_formed = tt; spelled = sym e }))

pub never_made : (document : List ℕ) (made : List Piece) (rest : List ℕ) → IsFront document made rest → (HasCut rest → ⊥) → HasCut document → ⊥
never_made document made rest so none (ps, c) = let on = so.only ps c in none (on.0, on.2)
