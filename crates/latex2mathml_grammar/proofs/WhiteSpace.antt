-- White space at a place between two tokens that is not a digit place does not change the token list.
use Rattle.std.proofs.Common.{◌≡◌, ℕ, Bool, true, false, ◌&&◌, IsTrue, List, [], ◌∷◌, ◌++◌, Option, Some, None, map, refl, sym, ap, subst, ◌∙◌, append_assoc, arith}
use Rattle.std.proofs.{lemmas.Bool.and_right, lemmas.Bool.Decides.nat_tests, lemmas.List.Elements.All-head, lemmas.List.Elements.All-nil, lemmas.List.Folds.list_all-append, lemmas.List.Sums.AllPass-from_list_all, lemmas.List.Sums.list_all-from_AllPass, lemmas.Str.chars-append}
use Rattle.std.specs.{Char.is_ascii_digit, Char.is_ascii_alphabetic, List.AllPass, List.list_all, Str.IsUtf8, Str.chars}
use Rattle.latex2mathml_grammar.specs.Characters.{Begins, Stops, head, is_empty, is_space}
use Rattle.latex2mathml_grammar.specs.{Cutting.slices_of, Rendering.IsRendering, Rendering.IsFormulaRefusal}
use Rattle.latex2mathml_grammar.specs.Places.{AreSlices, IsBetweenTokens, IsDigitPlace, IsReadAlike, SpaceChangesNothing, HasPlaces}
use Rattle.latex2mathml_grammar.specs.Spelling.{SpellsAt, Slice, HasSlices, HasTokens, is_equals_sign, is_period, character, colon, colon_equals, number, digit, symbol_command, letter_command, lone_backslash}
use Rattle.latex2mathml_tokens.specs.Tok.{Tok, takes_digit}
use Rattle.latex2mathml_grammar.proofs.{OneList.at_most_one, OneList.cut}
use Rattle.latex2mathml_grammar.proofs.Tokenizing.{Dark, spells_dark}

-- a slice, where other characters may follow it

-- the next character, if there is one, fails each test that white space fails
abbrev IsLight : Option ℕ → Type 0
IsLight next = (p : ℕ → Bool) → ((c : ℕ) → is_space c ≡ true → p c ≡ false) → Stops p next

-- a slice spells the same before `later` as before `next`, if `later` fails each test that `next` and all white space
-- fail, and if a digit is a number of its own in both places or in neither
spells_there : (alone other : Bool) (w : List ℕ) (next later : Option ℕ) (t : Tok) → (Begins is_ascii_digit w → alone ≡ other) → ((p : ℕ → Bool) → ((c : ℕ) → is_space c ≡ true → p c ≡ false) → Stops p next → Stops p later) → (next ≡ None → later ≡ None) → SpellsAt alone w next t → SpellsAt other w later t
spells_there alone other w next later t same stops none (character c longer dark e f) = character c longer dark e f
spells_there alone other w next later t same stops none (colon s e f) = colon (stops is_equals_sign (λ c h. grind (arith, nat_tests)) s) e f
spells_there alone other w next later t same stops none (colon_equals e f) = colon_equals e f
spells_there alone other w next later t same stops none (number a n f) =
    number (sym (same n.begins) ∙ a) (record {
      begins = n.begins;
      holds = n.holds;
      at_most_one = n.at_most_one;
      ends = stops is_ascii_digit (λ c h. grind (arith, nat_tests)) n.ends;
      longest = λ k. stops is_period (λ c h. grind (arith, nat_tests)) (n.longest k);
    }) f
spells_there alone other w next later t same stops none (digit c a d e f) =
    digit c (sym (same (subst (Begins is_ascii_digit) (sym e) d)) ∙ a) d e f
spells_there alone other w next later t same stops none (symbol_command c l e f) = symbol_command c l e f
spells_there alone other w next later t same stops none (letter_command c cs e l s f) = letter_command c cs e l (stops is_ascii_alphabetic (λ c h. grind (arith, nat_tests)) s) f
spells_there alone other w next later t same stops none (lone_backslash e n f) = lone_backslash e (none n) f

-- the slices before the place

-- these are slices too where white space follows them
slices_before_space : (takes : Bool) (w behind other : List ℕ) (ss : List Slice) → (head behind ≡ None → ⊥) → IsLight (head other) → AreSlices takes w behind ss → AreSlices takes w other ss
slices_before_space takes w behind other [] some light h = h
slices_before_space takes w behind other (s ∷ ss) some light (space, [], whole, white, spells, later) =
    (space, [], whole, white, spells_there _ _ _ _ _ _ (λ d. refl) (λ p dark s. light p dark) (λ e. absurd (some e)) spells, slices_before_space _ [] behind other ss some light later)
slices_before_space takes w behind other (s ∷ ss) some light (space, c ∷ more, whole, white, spells, later) =
    (space, c ∷ more, whole, white, spells, slices_before_space _ (c ∷ more) behind other ss some light later)

step_whole : (w behind space text more : List ℕ) → w ≡ space ++ (text ++ more) → w ++ behind ≡ space ++ (text ++ (more ++ behind))
step_whole w behind space text more e = ap (λ x. x ++ behind) e ∙ append_assoc space (text ++ more) behind ∙ ap (λ x. space ++ x) (append_assoc text more behind)

-- slices, followed by those of the text after them
slices_joined : (takes : Bool) (w behind : List ℕ) (ss : List Slice) (s : Slice) (rs : List Slice) → AreSlices takes w behind (ss ++ s ∷ []) → HasSlices (takes_digit (Some s.token)) behind rs → HasSlices takes (w ++ behind) (ss ++ s ∷ rs)
slices_joined takes w behind [] s rs (space, more, whole, white, spells, none) later =
    (more ++ behind, (space, step_whole w behind space s.text more whole, white, spells), subst (λ m. HasSlices (takes_digit (Some s.token)) (m ++ behind) rs) (sym none) later)
slices_joined takes w behind (r ∷ ss) s rs (space, more, whole, white, spells, between) later =
    (more ++ behind, (space, step_whole w behind space r.text more whole, white, spells), slices_joined (takes_digit (Some r.token)) more behind ss s rs between later)

-- the slice after the place

light_first : (left : List ℕ) (c : ℕ) (cs right : List ℕ) → IsTrue (list_all is_space (left ++ right)) → is_space c ≡ true → (behind : List ℕ) → IsLight (head (left ++ (c ∷ cs ++ behind)))
light_first [] c cs right h k behind = λ p dark. dark c k
light_first (x ∷ left) c cs right h k behind = λ p dark. dark x (grind arith)

some_stands : (left right w rest : List ℕ) → Dark w → head (left ++ (right ++ (w ++ rest))) ≡ None → ⊥
some_stands [] [] [] rest dark none = absurd dark
some_stands left right w rest dark none = cc

gap_some : (left : List ℕ) (c : ℕ) (cs : List ℕ) → is_empty (left ++ c ∷ cs) ≡ false
gap_some [] c cs = refl
gap_some (x ∷ left) c cs = refl

-- a slice spells the same after a gap, except for a digit that is a number of its own
spells_apart : (takes : Bool) (gap w : List ℕ) (next : Option ℕ) (t : Tok) → (gap ≡ [] → IsTrue takes → Begins is_ascii_digit w → ⊥) → SpellsAt (takes && is_empty gap) w next t → SpellsAt false w next t
spells_apart true [] w next t other spells = spells_there true false w next next t (λ digit. absurd (other refl refl digit)) (λ p dark s. s) (λ e. e) spells
spells_apart takes gap w next t other spells = spells

-- the slices of a text with a place between two tokens

abbrev around : (before after : List ℕ) → IsBetweenTokens before after → List Slice
around before after place = place.earlier ++ place.last ∷ place.next ∷ slices_of (takes_digit (Some place.next.token)) place.rest

-- the slices up to the place, the white space there with more inserted, and the slices of the rest
slices_around : {before after : List ℕ} (place : IsBetweenTokens before after) (space : List ℕ) → AreSlices false place.front (place.left ++ (space ++ after)) (place.earlier ++ place.last ∷ []) → AllPass is_space (place.left ++ (space ++ place.right)) → SpellsAt (takes_digit (Some place.last.token) && is_empty (place.left ++ (space ++ place.right))) place.next.text (head place.rest) place.next.token → HasSlices false (before ++ (space ++ after)) (around before after place)
slices_around {before} {after} place space earlier white spells =
    let slice : List ℕ = place.next.text ++ place.rest in
    let whole : before ++ (space ++ after) ≡ place.front ++ (place.left ++ (space ++ after)) = ap (λ x. x ++ (space ++ after)) place.before_is ∙ append_assoc place.front place.left (space ++ after) in
    let next : place.left ++ (space ++ after) ≡ (place.left ++ (space ++ place.right)) ++ slice = ap (λ x. place.left ++ (space ++ x)) place.after_is ∙ sym (append_assoc place.left (space ++ place.right) slice ∙ ap (λ x. place.left ++ x) (append_assoc space place.right slice)) in
    subst (λ x. HasSlices false x (around _ _ place)) (sym whole) (slices_joined false place.front _ place.earlier place.last _ earlier (place.rest, (_, next, white, spells), cut _ place.rest))

same_slices : (before after : List ℕ) (place : IsBetweenTokens before after) → ¬ (IsDigitPlace place) → (space : List ℕ) → AllPass is_space space → HasSlices false (before ++ (space ++ after)) (around before after place)
same_slices before after place no_digit_place [] white = slices_around place [] place.slices place.space place.spells
same_slices before after place no_digit_place (c ∷ cs) white =
    let space = list_all-from_AllPass is_space (place.left ++ place.right) place.space in
    let more = list_all-from_AllPass is_space (c ∷ cs) white in
    let some : head (place.left ++ after) ≡ None → ⊥ = λ none. some_stands place.left place.right _ _ (spells_dark _ _ _ _ place.spells) (ap (λ x. head (place.left ++ x)) (sym place.after_is) ∙ none) in
    let earlier = slices_before_space false place.front _ (place.left ++ (c ∷ cs ++ after)) _ some (light_first place.left c cs place.right space (All-head (λ x. is_space x ≡ true) c cs white) after) place.slices in
    let spells = spells_apart _ _ _ _ _ (λ touching takes digit. no_digit_place (record { touching = touching; takes = takes; digit = digit })) place.spells in
    slices_around place (c ∷ cs) earlier (AllPass-from_list_all is_space _ (grind (arith, list_all-append {X = ℕ}, space, more))) (rw (gap_some place.left c (cs ++ place.right), and_right _ false refl) spells)

-- texts with the same slices

same_tokens : (text other : List ℕ) (ss : List Slice) → HasSlices false text ss → HasSlices false other ss → (ts : List Tok) → HasTokens None text ts → HasTokens None other ts
same_tokens text other ss a b ts h =
    subst (HasTokens None other) (at_most_one None text (map (λ s. s.token) ss) ts (ss, a, refl) h) (ss, b, refl)

read_alike : (text other : List ℕ) → ((ts : List Tok) → HasTokens None (chars text) ts → HasTokens None (chars other) ts) → ((ts : List Tok) → HasTokens None (chars other) ts → HasTokens None (chars text) ts) → IsReadAlike text other
unfolding IsRendering IsFormulaRefusal
read_alike text other to from = record {
  tokens = λ ts. (to ts, from ts);
  renderings = λ display markup. (λ h. (h.0, to h.0 h.1, h.2), λ h. (h.0, from h.0 h.1, h.2));
  refusals = λ refusal. (λ h. (h.0, to h.0 h.1, h.2), λ h. (h.0, from h.0 h.1, h.2));
}

pub space_changes_nothing : (before space after : List ℕ) → IsUtf8 before → IsUtf8 space → SpaceChangesNothing before space after
space_changes_nothing before space after u v = λ place no_digit_place white.
    let ss : List Slice = around (chars before) (chars after) place in
    let a : HasSlices false (chars (before ++ after)) ss = rw (chars-append before after u) (same_slices _ _ place no_digit_place [] (All-nil (λ x. is_space x ≡ true))) in
    let b : HasSlices false (chars (before ++ (space ++ after))) ss = rw (chars-append before (space ++ after) u, chars-append space after v) (same_slices _ _ place no_digit_place (chars space) white) in
    read_alike (before ++ after) (before ++ (space ++ after)) (same_tokens _ _ ss a b) (same_tokens _ _ ss b a)

-- where places are

-- the slices of a text up to one of them, and those after it
parted : (takes : Bool) (text : List ℕ) (ss : List Slice) (s : Slice) (rs : List Slice) → HasSlices takes text (ss ++ s ∷ rs) → (front : List ℕ) × (behind : List ℕ) × (text ≡ front ++ behind) × AreSlices takes front behind (ss ++ s ∷ []) × HasSlices (takes_digit (Some s.token)) behind rs
parted takes text [] s rs (rest, (space, whole, white, spells), later) =
    (space ++ (s.text ++ []), rest, whole ∙ sym (step_whole _ rest space s.text [] refl), (space, [], refl, white, spells, refl), later)
parted takes text (r ∷ ss) s rs (rest, (space, whole, white, spells), later) =
    let (front, behind, parts, slices, more) = parted (takes_digit (Some r.token)) rest ss s rs later in
    (space ++ (r.text ++ front), behind, whole ∙ ap (λ x. space ++ (r.text ++ x)) parts ∙ sym (step_whole _ behind space r.text front refl), (space, front, refl, white, subst (λ x. SpellsAt (takes && is_empty space) r.text (head x) r.token) parts spells, slices), more)

pub has_places : (text : List ℕ) → HasPlaces text
has_places text = λ earlier later last next h.
    let (front, after, whole, slices, (rest, (space, gap, white, spells), more)) = parted false text earlier last (next ∷ later) h in
    let behind : List ℕ = next.text ++ rest in (
      front,
      space,
      behind,
      whole ∙ ap (λ x. front ++ x) gap,
      λ left right e. (let place : IsBetweenTokens (front ++ left) (right ++ behind) = record {
        front = front;
        left = left;
        earlier = earlier;
        last = last;
        right = right;
        next = next;
        rest = rest;
        before_is = refl;
        after_is = refl;
        slices = subst (λ x. AreSlices false front x (earlier ++ last ∷ [])) (gap ∙ ap (λ x. x ++ behind) e ∙ append_assoc left right behind) slices;
        space = subst (AllPass is_space) e white;
        spells = subst (λ x. SpellsAt (takes_digit (Some last.token) && is_empty x) next.text (head rest) next.token) e spells;
      } in (place, refl, refl)),
    )
