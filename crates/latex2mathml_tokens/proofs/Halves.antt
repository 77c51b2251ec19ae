-- The two halves of the command table.
use Rattle.std.proofs.Common.{◌≡◌, ◌≢◌, ℕ, true, ◌+◌, ◌<◌, List, ◌∷◌, ◌++◌, map, get_or, length, sym, ap, subst, ◌∙◌, arith, drop, take-append-drop}
use Rattle.std.specs.declared.cmp.Ordering.TheVariants.{Less}
use Rattle.std.specs.{Cmp.Lexicographic.slice_cmp, Ordering.nat_cmp}
use Rattle.std.proofs.lemmas.List.{length-map}
use Rattle.latex2mathml_tokens.specs.{Commands.command_entries, Commands.entry_token, declared.token.table.Entry.Entry}
use Rattle.latex2mathml_tokens.specs.Entries.{ascending, entries_from_l, entries_up_to_k, entry_of, up_to_k}
use Rattle.latex2mathml_tokens.proofs.Lookups.{ascending-parts, parted, stands_before, stands_from}
use Rattle.latex2mathml_tokens.proofs.Order.{ascending-command_entries, length-from_l, length-up_to_k}

module _ (first last : List Entry) (e : map entry_of first ≡ entries_up_to_k) (f : map entry_of last ≡ entries_from_l) where
  pub first_is_small : length first < 256
  first_is_small = omega (arith, sym (length-map first entry_of) ∙ ap length e ∙ length-up_to_k)

  pub last_is_small : (length last < 256) × (0 < length last)
  last_is_small =
      let k : length last ≡ 241 = sym (length-map last entry_of) ∙ ap length f ∙ length-from_l in
      (omega arith, omega arith)

  whole : command_entries ≡ map entry_of first ++ map entry_of last
  whole = rw (e, f) (sym (take-append-drop up_to_k command_entries))

  pub both_ascend : (ascending (map entry_of first) ≡ true) × (ascending (map entry_of last) ≡ true)
  both_ascend = ascending-parts _ _ (rw whole at ascending-command_entries)

  module _ (name : List ℕ) (d : Entry) where
    seam : command_entries ≡ map entry_of first ++ entry_of (get_or last 0 d) ∷ map entry_of (drop 1 last)
    seam = whole ∙ ap (λ es. map entry_of first ++ es) (parted last 0 d last_is_small.1)

    is_sorted : ascending (map entry_of first ++ entry_of (get_or last 0 d) ∷ map entry_of (drop 1 last)) ≡ true
    is_sorted = subst (λ es. ascending es ≡ true) seam ascending-command_entries

    -- a name that is less than the first one of the last half is in the first half
    pub in_first : slice_cmp nat_cmp name (get_or last 0 d).name.now ≡ Less → entry_token (map entry_of first) name ≡ entry_token command_entries name
    in_first is = sym (ap (λ es. entry_token es name) seam ∙ stands_before _ _ _ name is_sorted is)

    -- any other name is in the last half
    pub in_last : slice_cmp nat_cmp name (get_or last 0 d).name.now ≢ Less → entry_token (map entry_of last) name ≡ entry_token command_entries name
    in_last is = ap (λ es. entry_token es name) (parted last 0 d last_is_small.1) ∙ sym (ap (λ es. entry_token es name) seam ∙ stands_from _ _ _ name is_sorted is)
