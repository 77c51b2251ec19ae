-- Joined documents: prose at the end of the first and prose at the start of the second become one piece. Text that does not
-- end in a lone backslash is open to what follows it.
use Rattle.std.proofs.Common.{◌≡◌, ◌≢◌, ◌==◌, ◌+◌, ◌%◌, ℕ, List, [], ◌∷◌, ◌++◌, cond, ⊎_elim, refl, sym, ap, ◌∙◌, append_assoc, append-nil, subst, arith}
use Rattle.std.specs.List.{prefix_len, suffix_len}
use Rattle.std.proofs.{lemmas.Bool.eq-eqb, lemmas.Bool.Decides.eqb_tells, lemmas.List.reverse-append}
use Rattle.latex2mathml.specs.DocumentLaws.{EndsInOddBackslashes, JoinsAnswers}
use Rattle.latex2mathml.specs.Documents.{Piece, prose, inline, display, piece_text, spelling, IsWhole, nothing, single, pair, IsPlain, whole, lone, IsPiece, MayFollow, ArePieces, IsCut, PieceAnswer, PiecesAnswer, IsAnswer}
use Rattle.latex2mathml_grammar.specs.Dollars.{dollar, backslash}
use Rattle.latex2mathml.proofs.{PlainTexts.plain_append, PlainTexts.whole_append, ProseTexts.prose_append}

-- how many backslashes end the text
abbrev count : List ℕ → ℕ
count text = suffix_len (λ b. b == backslash) text

count_push : (x : List ℕ) (b : ℕ) → count (x ++ b ∷ []) ≡ cond (b == backslash) (1 + count x) 0
count_push x b = ap (prefix_len (λ c. c == backslash)) (reverse-append x (b ∷ []))

count_push_yes : (x : List ℕ) (b : ℕ) → b ≡ backslash → count (x ++ b ∷ []) ≡ 1 + count x
count_push_yes x b is = count_push x b ∙ ap (λ t. cond t (1 + count x) 0) (eq-eqb b backslash is)

count_push_no : (x : List ℕ) (b : ℕ) → b ≢ backslash → count (x ++ b ∷ []) ≡ 0
count_push_no x b m = ⊎_elim (λ h. absurd (m h.1)) (λ h. count_push x b ∙ ap (λ t. cond t (1 + count x) 0) h.0) (eqb_tells b backslash)

abbrev IsEven : List ℕ → Type 0
IsEven text = count text % 2 ≡ 0

even_no : (x : List ℕ) (b : ℕ) → b ≢ backslash → IsEven (x ++ b ∷ [])
even_no x b m = ap (λ n. n % 2) (count_push_no x b m)

even_two : (x : List ℕ) (b c : ℕ) → b ≡ backslash → IsEven x → IsEven ((x ++ b ∷ []) ++ c ∷ [])
even_two x b c is e =
    ⊎_elim (λ h. ap (λ n. n % 2) (count_push_yes (x ++ b ∷ []) c h.1 ∙ ap (λ n. 1 + n) (count_push_yes x b is)) ∙ two_more (count x) e)
    (λ h. even_no (x ++ b ∷ []) c h.1) (eqb_tells c backslash)
  where
    two_more : (n : ℕ) → n % 2 ≡ 0 → (1 + (1 + n)) % 2 ≡ 0
    two_more n h = omega arith

odd_one : (x : List ℕ) → IsEven x → EndsInOddBackslashes (x ++ 92 ∷ [])
odd_one x e = ap (λ n. n % 2) (count_push_yes x 92 refl) ∙ one_more (count x) e
  where
    one_more : (n : ℕ) → n % 2 ≡ 0 → (1 + n) % 2 ≡ 1
    one_more n h = omega arith

-- after a text that ends in an even number of backslashes, whole units leave that number even
even_whole : (front text : List ℕ) → IsEven front → IsWhole text → IsEven (front ++ text)
even_whole front [] e nothing = subst IsEven (sym (append-nil front)) e
even_whole front (b ∷ text) e (single n m w) = subst IsEven (append_assoc front (b ∷ []) text) (even_whole (front ++ b ∷ []) text (even_no front b m) w)
even_whole front (b ∷ c ∷ text) e (pair is w) =
    subst IsEven (append_assoc (front ++ b ∷ []) (c ∷ []) text ∙ append_assoc front (b ∷ []) (c ∷ text)) (even_whole ((front ++ b ∷ []) ++ c ∷ []) text (even_two front b c is e) w)

-- a piece after which another unit may come
abbrev IsOpen : Piece → Type 0
IsOpen (prose t) = IsWhole t
IsOpen p = Unit {0}

abbrev AreOpen : List Piece → Type 0
AreOpen [] = Unit {0}
AreOpen (p ∷ ps) = IsOpen p × AreOpen ps

behind : (front t rest : List ℕ) → (¬ EndsInOddBackslashes (front ++ (t ++ rest))) → ¬ EndsInOddBackslashes ((front ++ t) ++ rest)
behind front t rest h o = h (subst EndsInOddBackslashes (append_assoc front t rest) o)

differs : ◌≢◌ {A = ℕ} dollar backslash
differs = omega arith

even_formula : (front inside : List ℕ) → IsEven (front ++ (inside ++ 36 ∷ []))
even_formula front inside = subst IsEven (append_assoc front inside (36 ∷ [])) (even_no (front ++ inside) 36 differs)

last_whole : (front t : List ℕ) → IsEven front → IsPlain t → (¬ EndsInOddBackslashes (front ++ (t ++ []))) → IsWhole t
last_whole front t e (whole w) h = w
last_whole front t e (lone {front = f} w is) h =
    absurd (h (subst (λ l. EndsInOddBackslashes (front ++ l)) (sym (append-nil t)) (subst (λ l. EndsInOddBackslashes (front ++ l)) (sym is) (subst EndsInOddBackslashes (append_assoc front f (92 ∷ [])) (odd_one (front ++ f) (even_whole front f e w))))))

-- all pieces of a document that ends in an even number of backslashes are open
all_open : (ps : List Piece) (front : List ℕ) → ArePieces ps → IsEven front → (¬ EndsInOddBackslashes (front ++ spelling ps)) → AreOpen ps
all_open [] front w e h = tt
all_open (prose t ∷ []) front w e h = (last_whole front t e w.0.1 h, tt)
all_open (prose t ∷ prose u ∷ ps) front w e h = absurd w.1
all_open (prose t ∷ inline u ∷ ps) front w e h = (w.1, all_open (inline u ∷ ps) (front ++ t) w.2 (even_whole front t e w.1) (behind front t (spelling (inline u ∷ ps)) h))
all_open (prose t ∷ display u ∷ ps) front w e h = (w.1, all_open (display u ∷ ps) (front ++ t) w.2 (even_whole front t e w.1) (behind front t (spelling (display u ∷ ps)) h))
all_open (inline t ∷ ps) front w e h = (tt, all_open ps (front ++ piece_text (inline t)) w.2 (even_formula front (36 ∷ t)) (behind front (piece_text (inline t)) (spelling ps) h))
all_open (display t ∷ ps) front w e h = (
  tt,
  all_open ps (front ++ piece_text (display t)) w.2 (subst (λ l. IsEven (front ++ l)) (append_assoc (36 ∷ 36 ∷ t) (36 ∷ []) (36 ∷ [])) (even_formula front ((36 ∷ 36 ∷ t) ++ 36 ∷ []))) (behind front (piece_text (display t)) (spelling ps) h),
)

-- a piece before others
put : Piece → List Piece → List Piece
put (prose t) (prose u ∷ qs) = prose (t ++ u) ∷ qs
put p qs = p ∷ qs

put_cut : (p : Piece) (qs : List Piece) (text : List ℕ) → IsOpen p → IsPiece p → IsCut text qs → IsCut (piece_text p ++ text) (put p qs)
unfolding put
put_cut (prose []) qs text o i c = absurd (i.0 refl)
put_cut (prose (a ∷ t)) [] text o i c = record { well_formed = (i, tt, tt); spelled = ap (λ l. (a ∷ t) ++ l) c.spelled }
put_cut (prose (a ∷ t)) (prose u ∷ qs) text o i c =
    let w = c.well_formed in
    record {
      well_formed = ((λ e. cc, plain_append (a ∷ t) u o w.0.1), follows qs w.1, w.2);
      spelled = append_assoc (a ∷ t) u (spelling qs) ∙ ap (λ l. (a ∷ t) ++ l) c.spelled;
    }
  where
    follows : (qs : List Piece) → MayFollow (prose u) qs → MayFollow (prose ((a ∷ t) ++ u)) qs
    follows [] f = tt
    follows (prose v ∷ ps) f = f
    follows (inline v ∷ ps) f = whole_append (a ∷ t) u o f
    follows (display v ∷ ps) f = whole_append (a ∷ t) u o f
put_cut (prose (a ∷ t)) (inline u ∷ qs) text o i c = record { well_formed = (i, o, c.well_formed); spelled = ap (λ l. (a ∷ t) ++ l) c.spelled }
put_cut (prose (a ∷ t)) (display u ∷ qs) text o i c = record { well_formed = (i, o, c.well_formed); spelled = ap (λ l. (a ∷ t) ++ l) c.spelled }
put_cut (inline t) qs text o i c = record { well_formed = (i, tt, c.well_formed); spelled = ap (λ l. piece_text (inline t) ++ l) c.spelled }
put_cut (display t) qs text o i c = record { well_formed = (i, tt, c.well_formed); spelled = ap (λ l. piece_text (display t) ++ l) c.spelled }

put_answers : (p : Piece) (qs : List Piece) (front back : List ℕ) → IsOpen p → PieceAnswer p front → PiecesAnswer qs back → PiecesAnswer (put p qs) (front ++ back)
unfolding put
put_answers (prose t) [] front back o a b = (front, back, a, b, refl)
put_answers (prose t) (prose u ∷ qs) front back o a (x, y, b, c, e) =
    (front ++ x, y, (λ i. a i ++ b i) ∙ sym (prose_append t u o), c, ap (λ l. front ++ l) e ∙ sym (append_assoc front x y))
put_answers (prose t) (inline u ∷ qs) front back o a b = (front, back, a, b, refl)
put_answers (prose t) (display u ∷ qs) front back o a b = (front, back, a, b, refl)
put_answers (inline t) qs front back o a b = (front, back, a, b, refl)
put_answers (display t) qs front back o a b = (front, back, a, b, refl)

-- the pieces of two documents, joined
joined_pieces : List Piece → List Piece → List Piece
joined_pieces [] qs = qs
joined_pieces (p ∷ ps) qs = put p (joined_pieces ps qs)

joined_cut : (ps qs : List Piece) (text : List ℕ) → AreOpen ps → ArePieces ps → IsCut text qs → IsCut (spelling ps ++ text) (joined_pieces ps qs)
unfolding joined_pieces
joined_cut [] qs text o w c = c
joined_cut (p ∷ ps) qs text o w c =
    subst (λ d. IsCut d (put p (joined_pieces ps qs))) (sym (append_assoc (piece_text p) (spelling ps) text)) (put_cut p (joined_pieces ps qs) (spelling ps ++ text) o.0 w.0 (joined_cut ps qs text o.1 w.2 c))

joined_answers : (ps qs : List Piece) (answer after : List ℕ) → AreOpen ps → PiecesAnswer ps answer → PiecesAnswer qs after → PiecesAnswer (joined_pieces ps qs) (answer ++ after)
unfolding joined_pieces
joined_answers [] qs answer after o a b = subst (λ l. PiecesAnswer qs (l ++ after)) (sym a) b
joined_answers (p ∷ ps) qs answer after o (x, y, a, c, e) b =
    subst (PiecesAnswer (put p (joined_pieces ps qs))) (sym (append_assoc x y after) ∙ ap (λ l. l ++ after) (sym e)) (put_answers p (joined_pieces ps qs) x (y ++ after) o.0 a (joined_answers ps qs y after o.1 c b))

-- the law
pub joined : (first second : List ℕ) → JoinsAnswers first second
unfolding IsAnswer
joined first second even answer after (ps, c, a) (qs, d, b) =
    let each = all_open ps [] c.well_formed refl (subst (λ text. ¬ EndsInOddBackslashes text) (sym c.spelled) even) in (
      joined_pieces ps qs,
      subst (λ text. IsCut (text ++ second) (joined_pieces ps qs)) c.spelled (joined_cut ps qs second each c.well_formed d),
      joined_answers ps qs answer after each a b,
    )
