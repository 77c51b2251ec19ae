-- What one comparison in a sorted table says about a look-up.
use Rattle.std.proofs.Common.{◌≡◌, ◌≢◌, ℕ, zero, suc, ◌+◌, ◌^◌, ◌<◌, ◌≤◌, true, false, List, [], ◌∷◌, ◌++◌, refl, sym, ap, subst, ◌∙◌, arith, map, take, drop, get_or, ◌/◌, ◌==◌, drop-cons, add-one, Some, None, length, take-append-drop}
use Rattle.std.specs.declared.cmp.Ordering.{Ordering}
use Rattle.std.specs.declared.cmp.Ordering.TheVariants.{Less, Equal, Greater}
use Rattle.std.specs.Ordering.{nat_cmp, is_lt, is_eq, ordering_reverse}
use Rattle.std.specs.{Cmp.Lexicographic.slice_cmp, Cmp.Lexicographic.texts_ties, Str.bytes_eq, List.AllPass}
use Rattle.std.proofs.{lemmas.Cmp.nat_list_cmp_total, lemmas.Slice.Eq.bytes_eq-Decides, lemmas.Bool.Decides.nat_tests}
use Rattle.std.proofs.lemmas.Bool.{and_from, and_parts, eqb-true, false_from_ne_true}
use Rattle.std.proofs.lemmas.List.{length-drop, length-take, map-append}
use Rattle.std.proofs.lemmas.List.Elements.{All-drop, All-take}
use Rattle.std.proofs.Math.Nat.{pow-suc}
use Rattle.latex2mathml_tokens.specs.{Commands.command_entries, Commands.entry_token, Lexemes.lexeme_tok, Tok.Tok}
use Rattle.latex2mathml_tokens.specs.{Entries.ascending, Entries.entry_of, Entries.has_key, declared.token.table.Entry.Entry}

-- what a comparison says of equality
tested : (name other : List ℕ) (o : Ordering) → slice_cmp nat_cmp name other ≡ o → bytes_eq other name ≡ is_eq (ordering_reverse o)
tested name other o h = texts_ties other name ∙ ap is_eq (nat_list_cmp_total.antisymm other name ∙ ap ordering_reverse h)

is_less : (o : Ordering) → is_lt o ≡ true → o ≡ Less
is_less Less h = refl
is_less Equal h = cc
is_less Greater h = cc

-- the parts of a sorted table are sorted
pub ascending-parts : (rs ss : List (List ℕ × Tok)) → ascending (rs ++ ss) ≡ true → (ascending rs ≡ true) × (ascending ss ≡ true)
unfolding ascending
ascending-parts [] ss h = (refl, h)
ascending-parts (r ∷ []) ss h = (refl, (and_parts _ _ h).1)
ascending-parts (r ∷ s ∷ rs) ss h =
    let p = and_parts _ _ h in
    let q = ascending-parts (s ∷ rs) ss p.1 in
    (and_from _ _ p.0 q.0, q.1)

-- each name is less than all later ones
later : (r : List ℕ × Tok) (rs : List (List ℕ × Tok)) (s : List ℕ × Tok) (ss : List (List ℕ × Tok)) → ascending (r ∷ rs ++ s ∷ ss) ≡ true → slice_cmp nat_cmp r.0 s.0 ≡ Less
unfolding ascending
later r [] s ss a = is_less _ (and_parts _ _ a).0
later r (q ∷ rs) s ss a =
    let p = and_parts _ _ a in nat_list_cmp_total.trans _ q.0 _ (is_less _ p.0) (later q rs s ss p.1)

-- no entry has a name that is less than the first one's
none_before : (name : List ℕ) (r : List ℕ × Tok) (rs : List (List ℕ × Tok)) → ascending (r ∷ rs) ≡ true → slice_cmp nat_cmp name r.0 ≡ Less → entry_token (r ∷ rs) name ≡ None
unfolding ascending
none_before name r [] a h = rw (tested name r.0 Less h) refl
none_before name r (s ∷ rs) a h =
    let p = and_parts _ _ a in
    rw (tested name r.0 Less h) (none_before name s rs p.1 (nat_list_cmp_total.trans name r.0 _ h (is_less _ p.0)))

-- the entry of a name that is less than that of s is before s, and that of any other name is not
pub stands_before : (rs : List (List ℕ × Tok)) (s : List ℕ × Tok) (ss : List (List ℕ × Tok)) (name : List ℕ) → ascending (rs ++ s ∷ ss) ≡ true → slice_cmp nat_cmp name s.0 ≡ Less → entry_token (rs ++ s ∷ ss) name ≡ entry_token rs name
unfolding ascending
stands_before [] s ss name a h = none_before name s ss a h
stands_before (r ∷ rs) s ss name a h =
    let rest = (and_parts _ _ a).1 in rw (stands_before rs s ss name rest h) refl

pub stands_from : (rs : List (List ℕ × Tok)) (s : List ℕ × Tok) (ss : List (List ℕ × Tok)) (name : List ℕ) → ascending (rs ++ s ∷ ss) ≡ true → slice_cmp nat_cmp name s.0 ≢ Less → entry_token (rs ++ s ∷ ss) name ≡ entry_token (s ∷ ss) name
unfolding ascending
stands_from [] s ss name a h = refl
stands_from (r ∷ rs) s ss name a h =
    let other = λ (e : bytes_eq r.0 name ≡ true). h (subst (λ n. slice_cmp nat_cmp n s.0 ≡ Less) ((bytes_eq-Decides r.0 name).0 e) (later r rs s ss a)) in
    rw (false_from_ne_true _ other) (stands_from rs s ss name (and_parts _ _ a).1 h)

-- a table is what precedes one of its entries, that entry, and what follows it
pub parted : (entries : List Entry) (m : ℕ) (d : Entry) → m < length entries → map entry_of entries ≡ map entry_of (take m entries) ++ entry_of (get_or entries m d) ∷ map entry_of (drop (suc m) entries)
parted entries m d h =
    ap (map entry_of) (sym (take-append-drop m entries) ∙ ap (λ es. take m entries ++ es) (drop-cons entries m d h))
    ∙ map-append entry_of (take m entries) (get_or entries m d ∷ drop (suc m) entries)

-- the invariant of the search: the entries that are left decide the look-up, and after n comparisons they need at most `left` more
pub record Narrowed (entries : List Entry) (name : List ℕ) (n : ℕ) : Type 0 where
  pub same : entry_token command_entries name ≡ entry_token (map entry_of entries) name
  pub ordered : ascending (map entry_of entries) ≡ true
  pub left : ℕ
  pub halved : length entries < 2 ^ left
  pub some : 1 ≤ n
  pub nine : n + left ≡ 9
  pub keyed : AllPass has_key entries

-- the search begins with one half of the table, which one comparison chose
pub begins : (entries : List Entry) (name : List ℕ) (n : ℕ) → entry_token (map entry_of entries) name ≡ entry_token command_entries name → ascending (map entry_of entries) ≡ true → length entries < 256 → AllPass has_key entries → n ≡ 1 → Narrowed entries name n
begins entries name n same a few keyed e = record { same = sym same; ordered = a; left = 8; halved = few; some = omega arith; nine = omega arith; keyed = keyed }

-- the result is no entry if no entry is left
pub none_left : (entries : List Entry) (name : List ℕ) (n : ℕ) → Narrowed entries name n → (length entries == 0) ≡ true → entry_token command_entries name ≡ None
none_left [] name n inv h = inv.same
none_left (r ∷ entries) name n inv h = absurd (omega (arith, eqb-true (length (r ∷ entries)) 0 h))

halves : (a b left : ℕ) → 0 < a → a < 2 ^ left → b + b ≤ a → (fewer : ℕ) × (left ≡ suc fewer) × (b < 2 ^ fewer)
halves a b zero some h twice = absurd (omega arith)
halves a b (suc left) some h twice = (left, refl, omega (arith, pow-suc 2 left))

module _ (entries : List Entry) (name : List ℕ) (n : ℕ) (d : Entry) (inv : Narrowed entries name n) (nonempty : (length entries == 0) ≡ false) where
  some : 0 < length entries
  some = grind (arith, nat_tests)

  abbrev middle : Entry
  middle = get_or entries (length entries / 2) d

  abbrev left : List Entry
  left = take (length entries / 2) entries

  abbrev right : List Entry
  right = drop (suc (length entries / 2)) entries

  around_middle : map entry_of entries ≡ map entry_of left ++ entry_of middle ∷ map entry_of right
  around_middle = parted entries (length entries / 2) d (omega (arith, some))

  ordered : ascending (map entry_of left ++ entry_of middle ∷ map entry_of right) ≡ true
  ordered = rw around_middle at inv.ordered

  from_middle : slice_cmp nat_cmp name middle.name.now ≢ Less → entry_token command_entries name ≡ entry_token (entry_of middle ∷ map entry_of right) name
  from_middle other = inv.same ∙ ap (λ es. entry_token es name) around_middle ∙ stands_from _ _ _ name ordered other

  -- the middle entry is the result if its name is equal
  pub found : slice_cmp nat_cmp name middle.name.now ≡ Equal → entry_token command_entries name ≡ Some (lexeme_tok middle.lexeme)
  found is = from_middle (λ less. cc) ∙ rw (tested name middle.name.now Equal is) refl

  -- a half that has all entries of this name remains
  narrowed : (half remaining : List Entry) (n' : ℕ) → entry_token command_entries name ≡ entry_token (map entry_of half) name → ascending (map entry_of half) ≡ true → length half + length half ≤ length entries → AllPass has_key half → remaining ≡ half → n' ≡ n + 1 → Narrowed remaining name n'
  narrowed half remaining n' same sorted twice keyed e f =
      let h = halves (length entries) (length half) inv.left some inv.halved twice in
      rw (e, f) (record {
        same = same;
        ordered = sorted;
        left = h.0;
        halved = h.2;
        some = omega arith;
        nine = omega (arith, inv.nine, h.1);
        keyed = keyed;
      })

  -- the left one if the name is less than the middle entry's
  pub kept_left : (remaining : List Entry) (n' : ℕ) → slice_cmp nat_cmp name middle.name.now ≡ Less → remaining ≡ left → n' ≡ n + 1 → Narrowed remaining name n'
  kept_left remaining n' is =
      narrowed left remaining n' (inv.same ∙ ap (λ es. entry_token es name) around_middle ∙ stands_before _ _ _ name ordered is)
      (ascending-parts _ _ ordered).0 (simp length-take (omega arith)) (All-take (λ e. has_key e ≡ true) (length entries / 2) entries inv.keyed)

  -- the right one if it is greater
  pub kept_right : (remaining : List Entry) (n' : ℕ) → slice_cmp nat_cmp name middle.name.now ≡ Greater → remaining ≡ drop (length entries / 2 + 1) entries → n' ≡ n + 1 → Narrowed remaining name n'
  kept_right remaining n' is e =
      narrowed right remaining n' (from_middle (λ less. cc) ∙ rw (tested name middle.name.now Greater is) refl)
      (ascending-parts (entry_of middle ∷ []) _ (ascending-parts _ _ ordered).1).1 (simp length-drop (omega (arith, some)))
      (All-drop (λ e. has_key e ≡ true) (suc (length entries / 2)) entries inv.keyed) (rw add-one at e)
