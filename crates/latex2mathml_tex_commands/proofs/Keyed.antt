-- What one comparison of keys says about a look-up.
use Rattle.std.proofs.Common.{◌≡◌, ◌∙◌, ℕ, ◌+◌, ◌<◌, ◌/◌, ◌==◌, ◌≤◌, false, true, List, arith, drop, get_or, length, map, refl, subst, sym, take}
use Rattle.std.specs.{Cmp.Lexicographic.slice_cmp, Cmp.nat_cmp_is, List.AllPass, Ordering.nat_cmp}
use Rattle.std.specs.declared.cmp.Ordering.TheVariants.{Equal}
use Rattle.latex2mathml_tex_grammar.specs.Meaning.{Meaning}
use Rattle.latex2mathml_tokens.specs.Entries.{is_key}
use Rattle.latex2mathml_tokens.proofs.Keys.{key_less, key_greater, key_tied}
use Rattle.latex2mathml_tex_commands.specs.{Keys.IsCandidate, Keys.has_key, Meanings.entry_of, declared.meaning.Entry.Entry}
use Rattle.latex2mathml_tex_commands.proofs.Lookups.{Narrowed, equal_names, its_meaning, kept_left, kept_right, meaning_is, named, nonempty}

-- the entry in the middle
abbrev middle : List Entry → Entry → Entry
middle entries d = get_or entries (length entries / 2) d

keyed_middle : (entries : List Entry) (d : Entry) → AllPass has_key entries → (length entries == 0) ≡ false → has_key (middle entries d) ≡ true
keyed_middle entries d keyed some = keyed (length entries / 2) d (let more = nonempty entries some in omega (arith, more))

pub left_by_key : (table entries others : List Entry) (name : List ℕ) (key : ℕ) (d : Entry) → Narrowed its_meaning entry_of table entries name → AllPass has_key entries → (length entries == 0) ≡ false → is_key key name ≡ true → key < (middle entries d).key → others ≡ take (length entries / 2) entries → Narrowed its_meaning entry_of table others name
left_by_key table entries others name key d inv keyed some h less e =
    kept_left its_meaning entry_of table entries others name d _ inv some (sym (key_less key (middle entries d).key name (middle entries d).name.now h (keyed_middle entries d keyed some) less)) refl e

pub right_by_key : (table entries others : List Entry) (name : List ℕ) (key : ℕ) (d : Entry) → Narrowed its_meaning entry_of table entries name → AllPass has_key entries → (length entries == 0) ≡ false → is_key key name ≡ true → (middle entries d).key < key → others ≡ drop (length entries / 2 + 1) entries → Narrowed its_meaning entry_of table others name
right_by_key table entries others name key d inv keyed some h less e =
    kept_right its_meaning entry_of table entries others name d _ inv some (sym (key_greater key (middle entries d).key name (middle entries d).name.now h (keyed_middle entries d keyed some) less)) refl e

pub candidate : (table entries : List Entry) (name : List ℕ) (key : ℕ) (d : Entry) → Narrowed its_meaning entry_of table entries name → AllPass has_key entries → (length entries == 0) ≡ false → is_key key name ≡ true → key ≡ (middle entries d).key → IsCandidate (map entry_of table) (middle entries d) name
candidate table entries name key d inv keyed some h same = record {
  key = subst (λ k. is_key k name ≡ true) same h;
  keyed = keyed_middle entries d keyed some;
  named = λ is. meaning_is (map entry_of table) name ∙ named its_meaning entry_of table entries name d inv some is;
}

-- names of at most eight bytes that have the same key and the same length are equal
pub short_name : (entries : List (List ℕ × Meaning)) (entry : Entry) (name : List ℕ) → IsCandidate entries entry name → length name ≤ 8 → length name ≡ length entry.name.now → entry.name.now ≡ name
short_name entries entry name c h same =
    let tied : slice_cmp nat_cmp name entry.name.now ≡ nat_cmp (length name) (length entry.name.now) = key_tied entry.key entry.key name entry.name.now c.key c.keyed refl h (omega (arith, h, same)) in
    equal_names name entry.name.now (tied ∙ sym (nat_cmp_is (length name) (length entry.name.now) Equal same))
