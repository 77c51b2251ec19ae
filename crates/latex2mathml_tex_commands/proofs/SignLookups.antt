-- What one comparison in a sorted table of characters says about a look-up.
use Rattle.std.proofs.Common.{◌≡◌, ℕ, ◌+◌, ◌<◌, ◌/◌, ◌==◌, Bool, true, false, ◌&&◌, List, [], ◌∷◌, ◌++◌, refl, sym, ap, subst, ◌∙◌, arith, map, take, drop, get_or, take-append-drop, drop-cons, add-one, Some, None, length}
use Rattle.std.specs.Prelude.{⊤}
use Rattle.std.proofs.lemmas.{Bool.ltb-true, Bool.Decides.nat_tests, List.map-append, List.length-take, List.length-drop}
use Rattle.latex2mathml_tex_grammar.specs.{Commands.entry_symbol, Sorted.ascending_numbers, Sorted.below_first, Symbols.Symbol}
use Rattle.latex2mathml_tex_commands.specs.{declared.signs.SignEntry.SignEntry, Signs.entry_of}

abbrev Entries : Type 0
Entries = List (ℕ × Symbol)

-- the character is less than each entry's
abbrev IsBefore : ℕ → Entries → Type 0
IsBefore c [] = ⊤
IsBefore c (r ∷ rs) = (c < r.0) × IsBefore c rs

-- each character is less than all later ones
abbrev pub InOrder : Entries → Type 0
InOrder [] = ⊤
InOrder (r ∷ rs) = IsBefore r.0 rs × InOrder rs

IsBefore-less : (a b : ℕ) (rs : Entries) → a < b → IsBefore b rs → IsBefore a rs
IsBefore-less a b [] h k = tt
IsBefore-less a b (r ∷ rs) h k = (omega arith, IsBefore-less a b rs h k.1)

and_left : (a b : Bool) → (a && b) ≡ true → a ≡ true
and_left true b h = refl
and_left false b h = h

and_right : (a b : Bool) → (a && b) ≡ true → b ≡ true
and_right true b h = h
and_right false b h = cc

first_after : (c : ℕ) (rs : Entries) → below_first c rs ≡ true → InOrder rs → IsBefore c rs
first_after c [] h a = tt
first_after c (r ∷ rs) h a = (ltb-true _ _ h, IsBefore-less c r.0 rs (ltb-true _ _ h) a.0)

pub InOrder-ascending : (rs : Entries) → ascending_numbers rs ≡ true → InOrder rs
unfolding ascending_numbers
InOrder-ascending [] h = tt
InOrder-ascending (r ∷ rs) h =
    let rest : InOrder rs = InOrder-ascending rs (and_right _ _ h) in
    (first_after r.0 rs (and_left _ _ h) rest, rest)

-- characters that compare as unequal differ
less_apart : (a b : ℕ) → a < b → (a == b) ≡ false
less_apart a b h = grind (arith, nat_tests)

greater_apart : (a b : ℕ) → a < b → (b == a) ≡ false
greater_apart a b h = grind (arith, nat_tests)

same : (a b : ℕ) → a ≡ b → (a == b) ≡ true
same a b e = grind (arith, nat_tests)

none_after : (c : ℕ) (rs : Entries) → IsBefore c rs → entry_symbol rs c ≡ None
none_after c [] h = refl
none_after c (r ∷ rs) h = rw (greater_apart c r.0 h.0) (none_after c rs h.1)

IsBefore-middle : (a : ℕ) (xs : Entries) (x : ℕ × Symbol) (ys : Entries) → IsBefore a (xs ++ x ∷ ys) → a < x.0
IsBefore-middle a [] x ys h = h.0
IsBefore-middle a (z ∷ xs) x ys h = IsBefore-middle a xs x ys h.1

-- the entry with a lesser character is left of x
stands_left : (c : ℕ) (xs : Entries) (x : ℕ × Symbol) (ys : Entries) → InOrder (xs ++ x ∷ ys) → c < x.0 → entry_symbol (xs ++ x ∷ ys) c ≡ entry_symbol xs c
stands_left c [] x ys a h = none_after c (x ∷ ys) (h, IsBefore-less c x.0 ys h a.0)
stands_left c (z ∷ xs) x ys a h = rw (stands_left c xs x ys a.1 h)

-- the entry with a greater character is right of x
stands_right : (c : ℕ) (xs : Entries) (x : ℕ × Symbol) (ys : Entries) → InOrder (xs ++ x ∷ ys) → x.0 < c → entry_symbol (xs ++ x ∷ ys) c ≡ entry_symbol ys c
stands_right c [] x ys a h = rw (less_apart x.0 c h)
stands_right c (z ∷ xs) x ys a h =
    let before : z.0 < x.0 = IsBefore-middle z.0 xs x ys a.0 in
    rw (less_apart z.0 c (omega arith)) (stands_right c xs x ys a.1 h)

-- the entry with the same character is x
stands_here : (c : ℕ) (xs : Entries) (x : ℕ × Symbol) (ys : Entries) → InOrder (xs ++ x ∷ ys) → x.0 ≡ c → entry_symbol (xs ++ x ∷ ys) c ≡ Some x.1
stands_here c [] x ys a e = rw (same x.0 c e)
stands_here c (z ∷ xs) x ys a e =
    let before : z.0 < x.0 = IsBefore-middle z.0 xs x ys a.0 in
    rw (less_apart z.0 c (omega arith)) (stands_here c xs x ys a.1 e)

IsBefore-left : (a : ℕ) (xs ys : Entries) → IsBefore a (xs ++ ys) → IsBefore a xs
IsBefore-left a [] ys h = tt
IsBefore-left a (z ∷ xs) ys h = (h.0, IsBefore-left a xs ys h.1)

InOrder-left : (xs ys : Entries) → InOrder (xs ++ ys) → InOrder xs
InOrder-left [] ys a = tt
InOrder-left (z ∷ xs) ys a = (IsBefore-left z.0 xs ys a.0, InOrder-left xs ys a.1)

InOrder-right : (xs ys : Entries) → InOrder (xs ++ ys) → InOrder ys
InOrder-right [] ys a = a
InOrder-right (z ∷ xs) ys a = InOrder-right xs ys a.1

-- the invariant of the search: the entries that are left decide the look-up
pub record Narrowed (table entries : List SignEntry) (c : ℕ) : Type 0 where
  pub same : entry_symbol (map entry_of table) c ≡ entry_symbol (map entry_of entries) c
  pub ordered : InOrder (map entry_of entries)
  pub few : length entries < 512

pub whole_table : (table : List SignEntry) (c : ℕ) → ascending_numbers (map entry_of table) ≡ true → length table < 512 → Narrowed table table c
whole_table table c a few = record { same = refl; ordered = InOrder-ascending _ a; few = few }

-- the entries before the one at m, that entry, and the entries after it
split_entries : (entries : List SignEntry) (m : ℕ) (d : SignEntry) → m < length entries → map entry_of entries ≡ map entry_of (take m entries) ++ entry_of (get_or entries m d) ∷ map entry_of (drop (m + 1) entries)
split_entries entries m d h =
    ap (map entry_of) (sym (take-append-drop m entries)) ∙ map-append entry_of (take m entries) (drop m entries) ∙ ap (λ r. map entry_of (take m entries) ++ map entry_of r) (drop-cons entries m d h ∙ ap (λ k. get_or entries m d ∷ drop k entries) (sym (add-one m)))

pub middle : (entries : List SignEntry) → (length entries == 0) ≡ false → length entries / 2 < length entries
middle entries h =
    let some : 0 < length entries = grind (arith, nat_tests) in
    omega arith

-- the entries left of an index remain if the character is less than that of the entry there
pub kept_left : (table entries others : List SignEntry) (c m : ℕ) (d : SignEntry) → Narrowed table entries c → m < length entries → c < (get_or entries m d).character → others ≡ take m entries → Narrowed table others c
kept_left table entries others c m d inv h less e =
    let split = split_entries entries m d h in
    let a = subst InOrder split inv.ordered in
    rw e (record {
      same = inv.same ∙ ap (λ r. entry_symbol r c) split ∙ stands_left c _ (entry_of (get_or entries m d)) _ a less;
      ordered = InOrder-left _ _ a;
      few = simp length-take (omega (arith, inv.few));
    })

-- the entries right of an index remain if the character is greater than that of the entry there
pub kept_right : (table entries others : List SignEntry) (c m : ℕ) (d : SignEntry) → Narrowed table entries c → m < length entries → (get_or entries m d).character < c → others ≡ drop (m + 1) entries → Narrowed table others c
kept_right table entries others c m d inv h greater e =
    let split = split_entries entries m d h in
    let a = subst InOrder split inv.ordered in
    let right : InOrder (entry_of (get_or entries m d) ∷ map entry_of (drop (m + 1) entries)) = InOrder-right (map entry_of (take m entries)) _ a in
    rw e (record {
      same = inv.same ∙ ap (λ r. entry_symbol r c) split ∙ stands_right c _ (entry_of (get_or entries m d)) _ a greater;
      ordered = right.1;
      few = simp length-drop (omega (arith, inv.few));
    })

-- the entry at an index is the result if the characters are equal
pub found : (table entries : List SignEntry) (c m : ℕ) (d : SignEntry) → Narrowed table entries c → m < length entries → (get_or entries m d).character ≡ c → entry_symbol (map entry_of table) c ≡ Some (entry_of (get_or entries m d)).1
found table entries c m d inv h equal =
    let split = split_entries entries m d h in
    let a = subst InOrder split inv.ordered in
    inv.same ∙ ap (λ r. entry_symbol r c) split ∙ stands_here c _ (entry_of (get_or entries m d)) _ a equal

-- no entry is the result if none is left
pub none_left : (table entries : List SignEntry) (c : ℕ) → Narrowed table entries c → length entries ≡ 0 → entry_symbol (map entry_of table) c ≡ None
none_left table [] c inv h = inv.same
none_left table (r ∷ entries) c inv h = absurd (omega arith)
