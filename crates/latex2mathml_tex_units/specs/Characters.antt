-- Characters that are units by themselves.
use Rattle.std.specs.Prelude.{ℕ, Bool, ◌&&◌, List, map, nat_lt, not}
use Rattle.std.specs.List.{range_with_len}
use Rattle.latex2mathml_tex_grammar.specs.Units.{is_special}

-- a printable character of ASCII that begins no other unit
abbrev pub is_plain : ℕ → Bool
is_plain c = nat_lt 0x20 c && nat_lt c 0x7F && not (is_special c)

-- which bytes are such characters
unfoldable pub plain_bytes : List Bool
plain_bytes = map is_plain (range_with_len 0 256)
