-- The command table is sorted, each half has fewer than 256 entries, no entry has the empty name, and no entry's token owns
-- a text. All of this is computed.
use Rattle.std.proofs.Common.{◌≡◌, ℕ, true, false, not, List, [], ◌∷◌, unwrap_or, refl, length, arith}
use Rattle.std.specs.{List.list_all, Prelude.IsSome}
use Rattle.latex2mathml_tokens.specs.{Commands.command_entries, Commands.command_token, Commands.entry_token, Lexemes.owns_text}
use Rattle.latex2mathml_tokens.specs.{Entries.ascending, Entries.entries_from_l, Entries.entries_up_to_k, Tok.Tok, Tok.Command}

pub ascending-command_entries : ascending command_entries ≡ true
unfolding ascending command_entries
ascending-command_entries = refl

pub length-up_to_k : length entries_up_to_k ≡ 233
unfolding command_entries
length-up_to_k = refl

pub length-from_l : length entries_from_l ≡ 241
unfolding command_entries
length-from_l = refl

pub no_empty_name : command_token [] ≡ Command []
unfolding command_token command_entries
no_empty_name = refl

no_texts : list_all (λ r. not (owns_text r.1)) command_entries ≡ true
unfolding command_entries
no_texts = refl

no_text_among : (rs : List (List ℕ × Tok)) (name : List ℕ) (other : Tok) → list_all (λ r. not (owns_text r.1)) rs ≡ true → IsSome (entry_token rs name) → owns_text (unwrap_or (entry_token rs name) other) ≡ false
no_text_among [] name other h s = cc
no_text_among (r ∷ rs) name other h s = grind (arith, no_text_among rs name other)

-- so the token of a command that has an entry owns no text
pub no_text : (name : List ℕ) → IsSome (entry_token command_entries name) → owns_text (command_token name) ≡ false
unfolding command_token
no_text name s = no_text_among command_entries name (Command name) no_texts s
