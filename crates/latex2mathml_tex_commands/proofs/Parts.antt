-- The parts of the command table are sorted, and looking up a name in its part is looking it up in the table.
use Rattle.std.proofs.Common.{◌≡◌, ℕ, ◌<◌, Bool, true, ◌==◌, nat_lt, List, [], ◌∷◌, get_or, map, length, inl, inr, refl, sym, ap, subst, ◌∙◌, arith}
use Rattle.std.specs.List.{filter, list_all, range_with_len}
use Rattle.std.specs.Str.{byte, bytes_eq}
use Rattle.std.proofs.{lemmas.Bool.cases_Bool, lemmas.Bool.Decides.nat_tests, lemmas.List.FromFn.get_or-range_with_len, lemmas.List.FromFn.length-range_with_len, lemmas.List.Sums.AllPass-from_list_all, lemmas.List.length-map, lemmas.Slice.Eq.bytes_eq-Decides}
use Rattle.latex2mathml_tex_grammar.specs.{Commands.command_entries, Commands.entry_meaning, Commands.meaning_of, CommandsUpToL.commands_up_to_l, CommandsFromM.commands_from_m, Meaning.Meaning, Sorted.ascending}
use Rattle.latex2mathml_tex_commands.specs.{declared.meaning.Entry.Entry, Meanings.entry_of, Parts.entries_in, Parts.part_of}

-- there are 28 parts

few_parts : (name : List ℕ) → part_of name < 28
few_parts [] = omega arith
few_parts (c ∷ name) = elim (cases_Bool (nat_lt c (byte "a"))) [
  | inl h ↦ rw h (omega arith)
  | inr h ↦ rw h (omega arith)
]

-- what holds of each
each_part : (test : ℕ → Bool) → list_all test (range_with_len 0 28) ≡ true → (name : List ℕ) → test (part_of name) ≡ true
each_part test all name =
    let within : part_of name < length (range_with_len 0 28) = omega (arith, few_parts name, length-range_with_len 0 28) in
    let here : get_or (range_with_len 0 28) (part_of name) 0 ≡ part_of name = omega (arith, get_or-range_with_len 0 28 (part_of name) 0 (few_parts name)) in
    subst (λ k. test k ≡ true) here (AllPass-from_list_all test (range_with_len 0 28) all (part_of name) 0 within)

-- each part is sorted, and has few entries

all_sorted : list_all (λ k. ascending (entries_in k)) (range_with_len 0 28) ≡ true
unfolding ascending entries_in command_entries commands_up_to_l commands_from_m
all_sorted = refl

all_few : list_all (λ k. nat_lt (length (entries_in k)) 512) (range_with_len 0 28) ≡ true
unfolding entries_in command_entries commands_up_to_l commands_from_m
all_few = refl

pub part_sorted : (entries : List Entry) (name : List ℕ) → map entry_of entries ≡ entries_in (part_of name) → ascending (map entry_of entries) ≡ true
part_sorted entries name e = ap ascending e ∙ each_part (λ k. ascending (entries_in k)) all_sorted name

pub part_few : (entries : List Entry) (name : List ℕ) → map entry_of entries ≡ entries_in (part_of name) → length entries < 512
part_few entries name e =
    let same : length (map entry_of entries) ≡ length entries = simp length-map in
    let few : nat_lt (length (entries_in (part_of name))) 512 ≡ true = each_part (λ k. nat_lt (length (entries_in k)) 512) all_few name in
    let less : length (entries_in (part_of name)) < 512 = grind (arith, nat_tests) in
    omega (arith, same, ap length e, less)

-- an entry with this name is in the part of the name

itself : (n : ℕ) → (n == n) ≡ true
itself n = grind (arith, nat_tests)

in_part : (rs : List (List ℕ × Meaning)) (name : List ℕ) → entry_meaning (filter (λ r. part_of r.0 == part_of name) rs) name ≡ entry_meaning rs name
in_part [] name = refl
in_part (r ∷ rs) name = elim (cases_Bool (bytes_eq r.0 name)) [
  | inl h ↦ (let same : (part_of r.0 == part_of name) ≡ true = subst (λ n. (part_of n == part_of name) ≡ true) (sym ((bytes_eq-Decides r.0 name).0 h)) (itself (part_of name)) in rw (same, h) refl)
  | inr h ↦ elim (cases_Bool (part_of r.0 == part_of name)) [
    | inl k ↦ rw (k, h) (in_part rs name)
    | inr k ↦ rw (k, h) (in_part rs name)
  ]
]

pub found_in_part : (entries : List Entry) (name : List ℕ) → map entry_of entries ≡ entries_in (part_of name) → entry_meaning (map entry_of entries) name ≡ meaning_of name
unfolding meaning_of entries_in
found_in_part entries name e = ap (λ rs. entry_meaning rs name) e ∙ in_part command_entries name
