-- What comes next among units that are alike but for white space.
use Rattle.std.proofs.Common.{◌≡◌, ◌==◌, ℕ, Bool, true, false, inl, inr, List, [], ◌∷◌, ◌++◌, Option, Some, None, refl, sym, ap, subst, ◌∙◌}
use Rattle.std.specs.{Bool.⊤, Str.byte}
use Rattle.std.proofs.lemmas.Bool.{cases_Bool}
use Rattle.latex2mathml_tex_grammar.specs.Next.{is_space_piece, past_space, begins_with, follows, first_is, first_passes, next_are, digits_next, digits_here, refusal_here}
use Rattle.latex2mathml_tex_grammar.specs.{Makes.Scripts, Refusal.Kind, Refusal.Refusal, Rules.a_digit, Starts.step_next}
use Rattle.latex2mathml_tex_grammar.specs.Spacing.{Standing, InFormula, InWords, BetweenDollars, standing_behind, is_in_words, AreAlike, both_end, both_stop, same_piece, space_before, space_behind}
use Rattle.latex2mathml_tex_grammar.specs.Units.{Piece, Space, Open, Close, Command, Character, Unit, unit, Units, Next, End, Stop}
use Rattle.latex2mathml_tex_grammar.proofs.OneList.{is_byte}

-- what is at the front of alike units, neither of which begins with white space that is ignored
pub data Front (at : Standing) : Units → Units → Type 0 where
  both_next : {u : Unit} {l m : Units} (place : ℕ) → (is_in_words at ≡ false → is_space_piece u.piece ≡ false) → AreAlike (standing_behind u.piece at) l m → Front at (Next u l) (Next (unit u.piece place) m)
  both_ended : {place other : ℕ} → Front at (End place) (End other)
  both_stopped : {r q : Refusal} → r.kind ≡ q.kind → Front at (Stop r) (Stop q)

space_is : (piece : Piece) → is_space_piece piece ≡ true → piece ≡ Space
space_is Space h = refl
space_is Open h = cc
space_is Close h = cc
space_is (Command name) h = cc
space_is (Character c) h = cc

past_one : (u : Unit) (us : Units) → u.piece ≡ Space → past_space (Next u us) ≡ past_space us
past_one u us e = rw e refl

with_piece : {at : Standing} {u : Unit} (v : Unit) {l m : Units} → u.piece ≡ v.piece → (is_in_words at ≡ false → is_space_piece u.piece ≡ false) → AreAlike (standing_behind u.piece at) l m → Front at (Next u l) (Next v m)
with_piece {at} {u} v {l} {m} e s h =
    let same : unit u.piece v.place ≡ v = ap (λ p. unit p v.place) e in
    subst (λ w. Front at (Next u l) (Next w m)) same (both_next v.place s h)

pub past_twice : (l : Units) → past_space (past_space l) ≡ past_space l
past_twice (Next u us) = elim (cases_Bool (is_space_piece u.piece)) [
  | inl h ↦ rw h (past_twice us)
  | inr h ↦ rw h (rw h refl)
]
past_twice (End place) = refl
past_twice (Stop r) = refl

-- a unit that comes next is not white space
pub next_stays : (l : Units) (u : Unit) (m : Units) → past_space l ≡ Next u m → past_space (Next u m) ≡ Next u m
next_stays l u m p = ap past_space (sym p) ∙ past_twice l ∙ p

-- white space does not change where the units after it are
stays : (at : Standing) (u : Unit) {l m : Units} → u.piece ≡ Space → Front (standing_behind u.piece at) l m → Front at l m
stays at u {l} {m} e h = subst (λ p. Front (standing_behind p at) l m) e h

-- past white space, alike units have the same front
pub fronts : {at : Standing} {l m : Units} → AreAlike at l m → Front at (past_space l) (past_space m)
fronts both_end = both_ended
fronts (both_stop e) = both_stopped e
fronts (space_before {at = at} {u = u} {l = l} {m = m} w e h) = subst (λ k. Front at k (past_space m)) (sym (past_one u l e)) (fronts h)
fronts (space_behind {at = at} {u = u} {l = l} {m = m} w e h) = subst (λ k. Front at (past_space l) k) (sym (past_one u m e)) (fronts h)
fronts (same_piece {at = at} {u = u} {v = v} {l = l} {m = m} e h) = elim (cases_Bool (is_space_piece u.piece)) [
  | inl s ↦ (let is = space_is u.piece s in
      subst (λ k. Front at k (past_space (Next v m))) (sym (past_one u l is)) (subst (λ k. Front at (past_space l) k) (sym (past_one v m (sym e ∙ is))) (stays at u is (fronts h))))
  | inr s ↦ (let left : past_space (Next u l) ≡ Next u l = rw s refl in
      let right : past_space (Next v m) ≡ Next v m = rw (sym e, s) refl in
      subst (λ k. Front at k (past_space (Next v m))) (sym left) (subst (λ k. Front at (Next u l) k) (sym right) (with_piece v e (λ w. s) h)))
]

-- within words white space counts, so alike units have the same front as they are
pub fronts_of_words : {at : Standing} {l m : Units} → AreAlike (InWords at) l m → Front (InWords at) l m
fronts_of_words both_end = both_ended
fronts_of_words (both_stop e) = both_stopped e
fronts_of_words (space_before w e h) = cc
fronts_of_words (space_behind w e h) = cc
fronts_of_words (same_piece {v = v} e h) = with_piece v e (λ w. cc) h

passes_too : {at : Standing} {k n : Units} (test : Piece → Bool) → Front at k n → begins_with test k ≡ begins_with test n
passes_too test (both_next place s h) = refl
passes_too test both_ended = refl
passes_too test (both_stopped e) = refl

-- a unit that passes a test comes next in both, or in neither
pub looks_too : {at : Standing} {l m : Units} (test : Piece → Bool) → AreAlike at l m → follows test l ≡ follows test m
looks_too test h = passes_too test (fronts h)

-- a unit that comes next in one comes next in the other, at a place of its own
pub record NextToo (at : Standing) (u : Unit) (l m : Units) : Type 0 where
  pub place : ℕ
  pub rest : Units
  pub is : past_space m ≡ Next (unit u.piece place) rest
  pub alike : AreAlike (standing_behind u.piece at) l rest

next_there : {at : Standing} {k n l m : Units} {u : Unit} → Front at k n → k ≡ Next u l → n ≡ past_space m → NextToo at u l m
next_there {at = at} {l = l} {m = m} {u = u} (both_next {u = v} {l = j} {m = n} place s h) p q =
    let same : v ≡ u = cc in
    let rest : j ≡ l = cc in
    subst (λ u. NextToo at u l m) same (subst (λ l. NextToo at v l m) rest (record { place = place; rest = n; is = sym q; alike = h }))
next_there both_ended p q = cc
next_there (both_stopped e) p q = cc

pub next_too : {at : Standing} {l m k : Units} {u : Unit} → AreAlike at l m → past_space l ≡ Next u k → NextToo at u k m
next_too h p = next_there (fronts h) p refl

end_there : {at : Standing} {k n : Units} {place : ℕ} → Front at k n → k ≡ End place → (other : ℕ) × (n ≡ End other)
end_there (both_next place s h) p = cc
end_there (both_ended {other = other}) p = (other, refl)
end_there (both_stopped e) p = cc

-- one ends where the other does
pub end_too : {at : Standing} {l m : Units} {place : ℕ} → AreAlike at l m → past_space l ≡ End place → (other : ℕ) × (past_space m ≡ End other)
end_too h p = end_there (fronts h) p

same_stop : {r q : Refusal} → Stop r ≡ Stop q → r.kind ≡ q.kind
same_stop {r} {q} e = (let same : r ≡ q = cc in ap (λ r. r.kind) same)

stop_there : {at : Standing} {k n : Units} {r : Refusal} → Front at k n → k ≡ Stop r → (q : Refusal) × (r.kind ≡ q.kind) × (n ≡ Stop q)
stop_there (both_next place s h) p = cc
stop_there both_ended p = cc
stop_there (both_stopped {q = q} e) p = (q, sym (same_stop p) ∙ e, refl)

-- one is refused where the other is
pub stop_too : {at : Standing} {l m : Units} {r : Refusal} → AreAlike at l m → past_space l ≡ Stop r → (q : Refusal) × (r.kind ≡ q.kind) × (past_space m ≡ Stop q)
stop_too h p = stop_there (fronts h) p

-- the refusals of this kind where these units begin are for the same reason
refused_there : {at : Standing} {k n : Units} (kind : Kind) → Front at k n → (refusal_here kind k).kind ≡ (refusal_here kind n).kind
refused_there kind (both_next place s h) = refl
refused_there kind both_ended = refl
refused_there kind (both_stopped e) = e

pub refused_too : {at : Standing} {l m : Units} (kind : Kind) → AreAlike at l m → (refusal_here kind (past_space l)).kind ≡ (refusal_here kind (past_space m)).kind
refused_too kind h = refused_there kind (fronts h)

-- the scripts end where they do in the other
step_there : {at : Standing} {k n : Units} (scripts : Scripts) → Front at k n → step_next scripts k ≡ step_next scripts n
step_there scripts (both_next place s h) = refl
step_there scripts both_ended = refl
step_there scripts (both_stopped e) = refl

pub same_step : {at : Standing} {l m : Units} (scripts : Scripts) → AreAlike at l m → step_next scripts (past_space l) ≡ step_next scripts (past_space m)
same_step scripts h = step_there scripts (fronts h)

-- Units that are taken

-- units are in a formula, in words or not
pub data IsCalm : Standing → Type 0 where
  in_formula : IsCalm InFormula
  in_dollars : {at : Standing} → IsCalm (BetweenDollars at)

-- the piece does not change where units of a formula are
abbrev pub IsPlain : Piece → Type 0
IsPlain piece = (at : Standing) → IsCalm at → standing_behind piece at ≡ at

-- what passes the test is plain
abbrev pub ArePlain : (Piece → Option (List ℕ)) → Type 0
ArePlain test = (piece : Piece) (found : List ℕ) → test piece ≡ Some found → IsPlain piece

pub character_plain : (c : ℕ) → (c == byte "$") ≡ false → IsPlain (Character c)
character_plain c h at in_formula = rw h refl
character_plain c h at in_dollars = rw h refl

pub character_stays : (at : Standing) (c : ℕ) → (c == byte "$") ≡ false → standing_behind (Character c) (InWords at) ≡ InWords at
character_stays at c h = rw h refl

-- a character is no dollar sign if a test tells them apart
pub no_dollar : {A : Type 0} {x y : A} (test : ℕ → A) → test (byte "$") ≡ x → (x ≡ y → ⊥) → (c : ℕ) → test c ≡ y → (c == byte "$") ≡ false
no_dollar test h differ c e = elim (cases_Bool (c == byte "$")) [
  | inl s ↦ absurd (differ (sym h ∙ ap test (sym (is_byte c (byte "$") s)) ∙ e))
  | inr s ↦ s
]

pub digit_plain : ArePlain a_digit
digit_plain (Character c) found e = character_plain c (no_dollar (λ c. a_digit (Character c)) refl (λ s. cc) c e)
digit_plain Space found e = cc
digit_plain Open found e = cc
digit_plain Close found e = cc
digit_plain (Command name) found e = cc

pub behind_plain : {at : Standing} {l m : Units} (piece : Piece) → IsPlain piece → IsCalm at → AreAlike (standing_behind piece at) l m → AreAlike at l m
behind_plain {at} {l} {m} piece plain calm h = subst (λ k. AreAlike k l m) (plain at calm) h

abbrev pub AllPlain : List (Piece → Option (List ℕ)) → Type 0
AllPlain [] = ⊤
AllPlain (test ∷ tests) = ArePlain test × AllPlain tests

-- the same was found in both, with alike units after it, or nothing in either
data SameFound (at : Standing) : Option (List ℕ × Units) → Option (List ℕ × Units) → Type 0 where
  found_both : {l m : Units} (texts : List ℕ) → AreAlike at l m → SameFound at (Some (texts, l)) (Some (texts, m))
  found_none : SameFound at None None

found_first : {at : Standing} {others more : Option (List ℕ × Units)} (first : List ℕ) → SameFound at others more → SameFound at (first_passes (Some first) others) (first_passes (Some first) more)
found_first first (found_both texts h) = found_both (first ++ texts) h
found_first first found_none = found_none

-- what passes the test leaves units where they are
abbrev pub Stay : Standing → (Piece → Option (List ℕ)) → Type 0
Stay at test = (piece : Piece) (found : List ℕ) → test piece ≡ Some found → standing_behind piece at ≡ at

abbrev pub AllStay : Standing → List (Piece → Option (List ℕ)) → Type 0
AllStay at [] = ⊤
AllStay at (test ∷ tests) = Stay at test × AllStay at tests

plain_stay : {at : Standing} → IsCalm at → (tests : List (Piece → Option (List ℕ))) → AllPlain tests → AllStay at tests
plain_stay calm [] plain = tt
plain_stay {at} calm (test ∷ tests) plain = (λ piece found e. plain.0 piece found e at calm, plain_stay calm tests plain.1)

found_one : {at : Standing} {l m : Units} (tests : List (Piece → Option (List ℕ))) (piece : Piece) (passes : Option (List ℕ)) → ((found : List ℕ) → passes ≡ Some found → standing_behind piece at ≡ at) → AreAlike (standing_behind piece at) l m → (AreAlike at l m → SameFound at (next_are tests l) (next_are tests m)) → SameFound at (first_passes passes (next_are tests l)) (first_passes passes (next_are tests m))
found_one tests piece None stays_there h more = found_none
found_one {l = l} {m = m} tests piece (Some first) stays_there h more = found_first first (more (subst (λ k. AreAlike k l m) (stays_there first refl) h))

found_next : {at : Standing} {k n : Units} (tests : List (Piece → Option (List ℕ))) (test : Piece → Option (List ℕ)) → Stay at test → ((l m : Units) → AreAlike at l m → SameFound at (next_are tests l) (next_are tests m)) → Front at k n → SameFound at (first_is test (next_are tests) k) (first_is test (next_are tests) n)
found_next tests test stays_there more (both_next {u = u} {l = l} {m = m} place s h) = found_one tests u.piece (test u.piece) (stays_there u.piece) h (more l m)
found_next tests test stays_there more both_ended = found_none
found_next tests test stays_there more (both_stopped e) = found_none

same_found : {at : Standing} (tests : List (Piece → Option (List ℕ))) → AllStay at tests → (l m : Units) → AreAlike at l m → SameFound at (next_are tests l) (next_are tests m)
same_found [] stay l m h = found_both [] h
same_found (test ∷ tests) stay l m h = found_next tests test stay.0 (same_found tests stay.1) (fronts h)

-- what passes the tests in one passes them in the other
pub record TakenToo (tests : List (Piece → Option (List ℕ))) (at : Standing) (texts : List ℕ) (l m : Units) : Type 0 where
  pub rest : Units
  pub is : next_are tests m ≡ Some (texts, rest)
  pub alike : AreAlike at l rest

found_there : {at : Standing} {tests : List (Piece → Option (List ℕ))} {texts : List ℕ} {k m : Units} {a b : Option (List ℕ × Units)} → SameFound at a b → a ≡ Some (texts, k) → b ≡ next_are tests m → TakenToo tests at texts k m
found_there {at = at} {tests = tests} {texts = texts} {k = k} {m = m} (found_both {l = j} {m = n} others h) p q =
    let both : List ℕ × Units = (texts, k) in
    let same : (others, j) ≡ both = cc in
    subst (λ t. TakenToo tests at t.0 t.1 m) same (record { rest = n; is = sym q; alike = h })
found_there found_none p q = cc

pub taken_kept : {at : Standing} {l m k : Units} {texts : List ℕ} (tests : List (Piece → Option (List ℕ))) → AllStay at tests → AreAlike at l m → next_are tests l ≡ Some (texts, k) → TakenToo tests at texts k m
taken_kept {l = l} {m = m} tests stay h p = found_there (same_found tests stay l m h) p refl

pub taken_too : {at : Standing} {l m k : Units} {texts : List ℕ} (tests : List (Piece → Option (List ℕ))) → AllPlain tests → IsCalm at → AreAlike at l m → next_are tests l ≡ Some (texts, k) → TakenToo tests at texts k m
taken_too tests plain calm h p = taken_kept tests (plain_stay calm tests plain) h p

none_there : {at : Standing} {a b : Option (List ℕ × Units)} → SameFound at a b → a ≡ None → b ≡ None
none_there (found_both texts h) p = cc
none_there found_none p = refl

pub missing_kept : {at : Standing} {l m : Units} (tests : List (Piece → Option (List ℕ))) → AllStay at tests → AreAlike at l m → next_are tests l ≡ None → next_are tests m ≡ None
missing_kept {l = l} {m = m} tests stay h p = none_there (same_found tests stay l m h) p

pub missing_too : {at : Standing} {l m : Units} (tests : List (Piece → Option (List ℕ))) → AllPlain tests → IsCalm at → AreAlike at l m → next_are tests l ≡ None → next_are tests m ≡ None
missing_too tests plain calm h p = missing_kept tests (plain_stay calm tests plain) h p

-- Digits

pub record SameDigits (at : Standing) (a b : List ℕ × Units) : Type 0 where
  pub texts : a.0 ≡ b.0
  pub alike : AreAlike at a.1 b.1

-- at white space or a digit, the digits after it are the same, and at any other unit there are none
digits_here_too : {at : Standing} {l m : Units} (u v : Unit) → u.piece ≡ v.piece → AreAlike (standing_behind u.piece at) l m → IsCalm at → (standing_behind u.piece at ≡ at → SameDigits at (digits_next l) (digits_next m)) → (space : Bool) → is_space_piece u.piece ≡ space → (digit : Option (List ℕ)) → a_digit u.piece ≡ digit → SameDigits at (digits_here space digit (Next u l) (digits_next l)) (digits_here space digit (Next v m) (digits_next m))
digits_here_too {at = at} u v e h calm more true s digit d = more (ap (λ p. standing_behind p at) (space_is u.piece s))
digits_here_too {at = at} u v e h calm more false s (Some digit) d =
    let behind = more (digit_plain u.piece digit d at calm) in record { texts = ap (λ k. digit ++ k) behind.texts; alike = behind.alike }
digits_here_too u v e h calm more false s None d = record { texts = refl; alike = same_piece e h }

pub digits_too : {at : Standing} {l m : Units} → IsCalm at → AreAlike at l m → SameDigits at (digits_next l) (digits_next m)
digits_too calm both_end = record { texts = refl; alike = both_end }
digits_too calm (both_stop e) = record { texts = refl; alike = both_stop e }
digits_too {at = at} {m = m} calm (space_before {u = u} {l = l} w e h) =
    let same : digits_next l ≡ digits_next (Next u l) = rw e refl in subst (λ k. SameDigits at k (digits_next m)) same (digits_too calm h)
digits_too {at = at} {l = l} calm (space_behind {u = u} {m = m} w e h) =
    let same : digits_next m ≡ digits_next (Next u m) = rw e refl in subst (λ k. SameDigits at (digits_next l) k) same (digits_too calm h)
digits_too {at = at} calm (same_piece {u = u} {v = v} {l = l} {m = m} e h) =
    let here = digits_here_too u v e h calm (λ same. subst (λ k. SameDigits k (digits_next l) (digits_next m)) same (digits_too (subst IsCalm (sym same) calm) h)) (is_space_piece u.piece) refl (a_digit u.piece) refl in
    subst (λ p. SameDigits at (digits_next (Next u l)) (digits_here (is_space_piece p) (a_digit p) (Next v m) (digits_next m))) e here
