-- The entries of the code's tables of characters that have names, as the definitions have them.
use Rattle.std.specs.Prelude.{ℕ, List}
use Rattle.latex2mathml_tex_commands.specs.declared.named.Named.{Named}

abbrev pub named_entry : Named → List ℕ × ℕ
named_entry entry = (entry.name.now, entry.character)
