-- The colors of the code's table, as the definitions have them, and components of two digits.
use Rattle.std.specs.Prelude.{ℕ, ◌+◌, ◌*◌, List, Option, Some, None}
use Rattle.latex2mathml_tex_commands.specs.declared.colors.Named.{Named}

abbrev pub entry_of : Named → List ℕ × ℕ × ℕ × ℕ
entry_of entry = (entry.name.now, entry.red, entry.green, entry.blue)

-- the component that two digits give, where both are digits
abbrev pub component : Option ℕ → Option ℕ → Option ℕ
component (Some high) (Some low) = Some (high * 16 + low)
component high low = None
