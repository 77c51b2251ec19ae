-- What one comparison in a sorted table says about a look-up.
use Rattle.std.proofs.Common.{◌≡◌, ℕ, ◌+◌, ◌<◌, Bool, true, false, ◌&&◌, List, [], ◌∷◌, ◌++◌, Option, if◌then◌else◌, refl, sym, ap, subst, ◌∙◌, arith, map, take, drop, get_or, ◌/◌, ◌==◌, take-append-drop, drop-cons, add-one, Some, None, length, inl, inr}
use Rattle.std.specs.declared.cmp.Ordering.{Ordering}
use Rattle.std.specs.declared.cmp.Ordering.TheVariants.{Less, Equal, Greater}
use Rattle.std.specs.Ordering.{nat_cmp, is_lt, is_eq, ordering_reverse}
use Rattle.std.specs.{Cmp.Lexicographic.slice_cmp, Cmp.Lexicographic.texts_ties, Prelude.⊤, Str.bytes_eq}
use Rattle.std.proofs.{lemmas.Cmp.nat_list_cmp_total, lemmas.Slice.Eq.bytes_eq-Decides, lemmas.Bool.cases_Bool, lemmas.Bool.Decides.nat_tests, lemmas.List.map-append, lemmas.List.length-take, lemmas.List.length-drop}
use Rattle.latex2mathml_tex_grammar.specs.{Commands.entry_meaning, Meaning.Meaning, Sorted.ascending, Sorted.before_first}

-- Sorted entries

abbrev Entries : Type 0 → Type 0
Entries V = List (List ℕ × V)

is_less : (o : Ordering) → is_lt o ≡ true → o ≡ Less
is_less Less h = refl
is_less Equal h = cc
is_less Greater h = cc

and_left : (a b : Bool) → (a && b) ≡ true → a ≡ true
and_left true b h = refl
and_left false b h = h

and_right : (a b : Bool) → (a && b) ≡ true → b ≡ true
and_right true b h = h
and_right false b h = cc

-- names that compare as unequal differ
less_apart : (a b : List ℕ) → slice_cmp nat_cmp a b ≡ Less → bytes_eq a b ≡ false
less_apart a b h = texts_ties a b ∙ ap is_eq h

greater_apart : (a b : List ℕ) → slice_cmp nat_cmp a b ≡ Less → bytes_eq b a ≡ false
greater_apart a b h = texts_ties b a ∙ ap is_eq (nat_list_cmp_total.antisymm b a ∙ ap ordering_reverse h)

pub equal_names : (a b : List ℕ) → slice_cmp nat_cmp a b ≡ Equal → b ≡ a
equal_names a b h = sym ((bytes_eq-Decides a b).0 (texts_ties a b ∙ ap is_eq h))

module _ {V : Type 0} where
  -- the name is less than each entry's
  abbrev IsBefore : List ℕ → Entries V → Type 0
  IsBefore name [] = ⊤
  IsBefore name (r ∷ rs) = (slice_cmp nat_cmp name r.0 ≡ Less) × IsBefore name rs

  -- each name is less than all later ones
  abbrev pub InOrder : Entries V → Type 0
  InOrder [] = ⊤
  InOrder (r ∷ rs) = IsBefore r.0 rs × InOrder rs

  IsBefore-less : (a b : List ℕ) (rs : Entries V) → slice_cmp nat_cmp a b ≡ Less → IsBefore b rs → IsBefore a rs
  IsBefore-less a b [] h k = tt
  IsBefore-less a b (r ∷ rs) h k = (nat_list_cmp_total.trans a b r.0 h k.0, IsBefore-less a b rs h k.1)

  first_after : (name : List ℕ) (rs : Entries V) → before_first name rs ≡ true → InOrder rs → IsBefore name rs
  first_after name [] h a = tt
  first_after name (r ∷ rs) h a = (is_less _ h, IsBefore-less name r.0 rs (is_less _ h) a.0)

  pub InOrder-ascending : (rs : Entries V) → ascending rs ≡ true → InOrder rs
  unfolding ascending
  InOrder-ascending [] h = tt
  InOrder-ascending (r ∷ rs) h =
      let rest : InOrder rs = InOrder-ascending rs (and_right _ _ h) in
      (first_after r.0 rs (and_left _ _ h) rest, rest)

  IsBefore-middle : (a : List ℕ) (xs : Entries V) (x : List ℕ × V) (ys : Entries V) → IsBefore a (xs ++ x ∷ ys) → slice_cmp nat_cmp a x.0 ≡ Less
  IsBefore-middle a [] x ys h = h.0
  IsBefore-middle a (z ∷ xs) x ys h = IsBefore-middle a xs x ys h.1

  IsBefore-left : (a : List ℕ) (xs ys : Entries V) → IsBefore a (xs ++ ys) → IsBefore a xs
  IsBefore-left a [] ys h = tt
  IsBefore-left a (z ∷ xs) ys h = (h.0, IsBefore-left a xs ys h.1)

  InOrder-left : (xs ys : Entries V) → InOrder (xs ++ ys) → InOrder xs
  InOrder-left [] ys a = tt
  InOrder-left (z ∷ xs) ys a = (IsBefore-left z.0 xs ys a.0, InOrder-left xs ys a.1)

  InOrder-right : (xs ys : Entries V) → InOrder (xs ++ ys) → InOrder ys
  InOrder-right [] ys a = a
  InOrder-right (z ∷ xs) ys a = InOrder-right xs ys a.1

-- A look-up: what the entry with a name gives, if there is one

module _ {V R : Type 0} (gives : List ℕ × V → R) where
  abbrev pub looked_up : Entries V → List ℕ → Option R
  looked_up [] name = None
  looked_up (r ∷ rs) name = if bytes_eq r.0 name then Some (gives r) else looked_up rs name

  none_after : (name : List ℕ) (rs : Entries V) → IsBefore name rs → looked_up rs name ≡ None
  none_after name [] h = refl
  none_after name (r ∷ rs) h = rw (greater_apart name r.0 h.0) (none_after name rs h.1)

  -- the entry with a lesser name is left of x
  stands_left : (name : List ℕ) (xs : Entries V) (x : List ℕ × V) (ys : Entries V) → InOrder (xs ++ x ∷ ys) → slice_cmp nat_cmp name x.0 ≡ Less → looked_up (xs ++ x ∷ ys) name ≡ looked_up xs name
  stands_left name [] x ys a h = none_after name (x ∷ ys) (h, IsBefore-less name x.0 ys h a.0)
  stands_left name (z ∷ xs) x ys a h = rw (stands_left name xs x ys a.1 h)

  -- the entry with a greater name is right of x
  stands_right : (name : List ℕ) (xs : Entries V) (x : List ℕ × V) (ys : Entries V) → InOrder (xs ++ x ∷ ys) → slice_cmp nat_cmp x.0 name ≡ Less → looked_up (xs ++ x ∷ ys) name ≡ looked_up ys name
  stands_right name [] x ys a h = rw (less_apart x.0 name h)
  stands_right name (z ∷ xs) x ys a h =
      rw (less_apart z.0 name (nat_list_cmp_total.trans z.0 x.0 name (IsBefore-middle z.0 xs x ys a.0) h)) (stands_right name xs x ys a.1 h)

  -- the entry with the same name is x
  stands_here : (name : List ℕ) (xs : Entries V) (x : List ℕ × V) (ys : Entries V) → InOrder (xs ++ x ∷ ys) → x.0 ≡ name → looked_up (xs ++ x ∷ ys) name ≡ Some (gives x)
  stands_here name [] x ys a e = rw ((bytes_eq-Decides x.0 name).1 e)
  stands_here name (z ∷ xs) x ys a e =
      rw (less_apart z.0 name (subst (λ n. slice_cmp nat_cmp z.0 n ≡ Less) e (IsBefore-middle z.0 xs x ys a.0))) (stands_here name xs x ys a.1 e)

-- A search by halving, among entries as the code has them

pub nonempty : {E : Type 0} (entries : List E) → (length entries == 0) ≡ false → 0 < length entries
nonempty entries h = grind (arith, nat_tests)

module _ {V R E : Type 0} (gives : List ℕ × V → R) (entry_of : E → List ℕ × V) where
  -- the invariant of the search: the entries that are left decide the look-up
  pub record Narrowed (table entries : List E) (name : List ℕ) : Type 0 where
    pub same : looked_up gives (map entry_of table) name ≡ looked_up gives (map entry_of entries) name
    pub ordered : InOrder (map entry_of entries)
    pub few : length entries < 512

  pub whole_table : (table : List E) (name : List ℕ) → ascending (map entry_of table) ≡ true → length table < 512 → Narrowed table table name
  whole_table table name a few = record { same = refl; ordered = InOrder-ascending _ a; few = few }

  -- the entries before the one at m, that entry, and the entries after it
  split_entries : (entries : List E) (m : ℕ) (d : E) → m < length entries → map entry_of entries ≡ map entry_of (take m entries) ++ entry_of (get_or entries m d) ∷ map entry_of (drop (m + 1) entries)
  split_entries entries m d h =
      ap (map entry_of) (sym (take-append-drop m entries)) ∙ map-append entry_of (take m entries) (drop m entries) ∙ ap (λ r. map entry_of (take m entries) ++ map entry_of r) (drop-cons entries m d h ∙ ap (λ k. get_or entries m d ∷ drop k entries) (sym (add-one m)))

  -- the left half remains if the name is less than the middle entry's
  pub kept_left : (table entries others : List E) (name : List ℕ) (d : E) (o : Ordering) → Narrowed table entries name → (length entries == 0) ≡ false → o ≡ slice_cmp nat_cmp name (entry_of (get_or entries (length entries / 2) d)).0 → o ≡ Less → others ≡ take (length entries / 2) entries → Narrowed table others name
  kept_left table entries others name d o inv h cmp is e =
      let some : 0 < length entries = nonempty entries h in
      let split = split_entries entries (length entries / 2) d (omega arith) in
      let a = subst InOrder split inv.ordered in
      rw e (record {
        same = inv.same ∙ ap (λ r. looked_up gives r name) split ∙ stands_left gives name _ (entry_of (get_or entries (length entries / 2) d)) _ a (sym cmp ∙ is);
        ordered = InOrder-left _ _ a;
        few = simp length-take (omega (arith, inv.few));
      })

  -- the right half remains if the name is greater than the middle entry's
  pub kept_right : (table entries others : List E) (name : List ℕ) (d : E) (o : Ordering) → Narrowed table entries name → (length entries == 0) ≡ false → o ≡ slice_cmp nat_cmp name (entry_of (get_or entries (length entries / 2) d)).0 → o ≡ Greater → others ≡ drop (length entries / 2 + 1) entries → Narrowed table others name
  kept_right table entries others name d o inv h cmp is e =
      let some : 0 < length entries = nonempty entries h in
      let split = split_entries entries (length entries / 2) d (omega arith) in
      let a = subst InOrder split inv.ordered in
      let right : InOrder (entry_of (get_or entries (length entries / 2) d) ∷ map entry_of (drop (length entries / 2 + 1) entries)) = InOrder-right (map entry_of (take (length entries / 2) entries)) _ a in
      let less : slice_cmp nat_cmp (entry_of (get_or entries (length entries / 2) d)).0 name ≡ Less = nat_list_cmp_total.antisymm (entry_of (get_or entries (length entries / 2) d)).0 name ∙ ap ordering_reverse (sym cmp ∙ is) in
      rw e (record {
        same = inv.same ∙ ap (λ r. looked_up gives r name) split ∙ stands_right gives name _ (entry_of (get_or entries (length entries / 2) d)) _ a less;
        ordered = right.1;
        few = simp length-drop (omega (arith, inv.few));
      })

  -- the middle entry is the result if it has the name
  pub named : (table entries : List E) (name : List ℕ) (d : E) → Narrowed table entries name → (length entries == 0) ≡ false → (entry_of (get_or entries (length entries / 2) d)).0 ≡ name → looked_up gives (map entry_of table) name ≡ Some (gives (entry_of (get_or entries (length entries / 2) d)))
  named table entries name d inv h is =
      let some : 0 < length entries = nonempty entries h in
      let split = split_entries entries (length entries / 2) d (omega arith) in
      let a = subst InOrder split inv.ordered in
      inv.same ∙ ap (λ r. looked_up gives r name) split ∙ stands_here gives name _ (entry_of (get_or entries (length entries / 2) d)) _ a is

  -- and so it is if its name compares as equal
  pub found : (table entries : List E) (name : List ℕ) (d : E) (o : Ordering) → Narrowed table entries name → (length entries == 0) ≡ false → o ≡ slice_cmp nat_cmp name (entry_of (get_or entries (length entries / 2) d)).0 → o ≡ Equal → looked_up gives (map entry_of table) name ≡ Some (gives (entry_of (get_or entries (length entries / 2) d)))
  found table entries name d o inv h cmp is = named table entries name d inv h (equal_names name (entry_of (get_or entries (length entries / 2) d)).0 (sym cmp ∙ is))

  -- no entry is the result if none is left
  pub none_left : (table entries : List E) (name : List ℕ) → Narrowed table entries name → length entries ≡ 0 → looked_up gives (map entry_of table) name ≡ None
  none_left table [] name inv h = inv.same
  none_left table (r ∷ entries) name inv h = absurd (omega arith)

-- The look-up of the definitions

abbrev pub its_meaning : List ℕ × Meaning → Meaning
its_meaning r = r.1

pub meaning_is : (rs : List (List ℕ × Meaning)) (name : List ℕ) → entry_meaning rs name ≡ looked_up its_meaning rs name
meaning_is [] name = refl
meaning_is (r ∷ rs) name = ap (λ m. if bytes_eq r.0 name then Some r.1 else m) (meaning_is rs name)

-- a look-up in two tables

pub in_first : (a b : Entries Meaning) (name : List ℕ) (m : Meaning) → entry_meaning a name ≡ Some m → entry_meaning (a ++ b) name ≡ Some m
in_first [] b name m e = cc
in_first (r ∷ a) b name m e = elim (cases_Bool (bytes_eq r.0 name)) [
  | inl h ↦ rw h (rw h at e)
  | inr h ↦ rw h (in_first a b name m (rw h at e))
]

pub in_last : (a b : Entries Meaning) (name : List ℕ) → entry_meaning a name ≡ None → entry_meaning (a ++ b) name ≡ entry_meaning b name
in_last [] b name e = refl
in_last (r ∷ a) b name e = elim (cases_Bool (bytes_eq r.0 name)) [
  | inl h ↦ absurd (cc (rw h at e))
  | inr h ↦ rw h (in_last a b name (rw h at e))
]
