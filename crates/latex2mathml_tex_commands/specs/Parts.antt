-- The parts of the command table: the first byte of a name says in which one it is looked up.
use Rattle.std.specs.Prelude.{ℕ, ◌-◌, ◌==◌, min, nat_lt, List, [], ◌∷◌, if◌then◌else◌}
use Rattle.std.specs.{List.filter, Str.byte}
use Rattle.latex2mathml_tex_grammar.specs.{Commands.command_entries, Meaning.Meaning}

-- the number of the part of the names that begin with this byte: 0 for the bytes before the letters, one number for each small
-- letter, and 27 for the bytes after them
abbrev pub part_with : ℕ → ℕ
part_with c = if nat_lt c (byte "a") then 0 else min (c - 96) 27

-- the number of the part in which a name is looked up
abbrev pub part_of : List ℕ → ℕ
part_of [] = 0
part_of (c ∷ name) = part_with c

-- the entries of a part
unfoldable pub entries_in : ℕ → List (List ℕ × Meaning)
entries_in part = filter (λ entry. part_of entry.0 == part) command_entries
