-- The code's table of commands: what its entries say, its two halves, the keys of names, and the order of entries.
use Rattle.std.specs.Prelude.{ℕ, zero, suc, ◌+◌, ◌*◌, List, [], ◌∷◌, Bool, true, ◌&&◌, get_or, nat_eq, nat_lt, take, drop}
use Rattle.std.specs.{Cmp.Lexicographic.slice_cmp, Ordering.nat_cmp, Ordering.is_lt}
use Rattle.latex2mathml_tokens.specs.{Commands.command_entries, Lexemes.lexeme_tok, Tok.Tok, declared.token.table.Entry.Entry}

-- a name and a token
abbrev pub entry_of : Entry → List ℕ × Tok
entry_of entry = (entry.name.now, lexeme_tok entry.lexeme)

-- how many entries are in the first half: those of names up to k
abbrev pub up_to_k : ℕ
up_to_k = 233

abbrev pub entries_up_to_k : List (List ℕ × Tok)
entries_up_to_k = take up_to_k command_entries

abbrev pub entries_from_l : List (List ℕ × Tok)
entries_from_l = drop up_to_k command_entries

-- the first n bytes of a name as a number, the first with the greatest weight, with zeros after its end
abbrev pub number : ℕ → List ℕ → ℕ
number zero name = 0
number (suc n) name = number n name * 256 + get_or name n 0

-- each of the first n is a byte
abbrev pub are_bytes : ℕ → List ℕ → Bool
are_bytes zero name = true
are_bytes (suc n) name = are_bytes n name && nat_lt (get_or name n 0) 256

-- the key of a name is the number of its first eight bytes
abbrev pub is_key : ℕ → List ℕ → Bool
is_key key name = nat_eq key (number 8 name) && are_bytes 8 name

abbrev pub has_key : Entry → Bool
has_key entry = is_key entry.key entry.name.now

-- the name is less than the first entry's, if there is one
abbrev pub before_first : List ℕ → List (List ℕ × Tok) → Bool
before_first name [] = true
before_first name (entry ∷ entries) = is_lt (slice_cmp nat_cmp name entry.0)

-- the entries are sorted by the bytes of their names: each name is less than the next
unfoldable pub ascending : List (List ℕ × Tok) → Bool
ascending [] = true
ascending (entry ∷ entries) = before_first entry.0 entries && ascending entries
