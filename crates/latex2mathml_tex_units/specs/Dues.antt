-- The operands that are still to come, as the definitions have them.
use Rattle.std.specs.Prelude.{map, reverse}
use Rattle.latex2mathml_tex_commands.specs.Optionals.{optional_of}
use Rattle.latex2mathml_tex_grammar.specs.Operands as operands
use Rattle.latex2mathml_tex_units.specs.declared.macros.due.{Around.Around, Due.Due}
use Rattle.latex2mathml_tex_units.specs.declared.macros.due.Around.TheVariants as around

abbrev pub around_of : Around → operands.Around
around_of (around.OpenBrace behind) = operands.OpenBrace behind
around_of (around.OpenBracket behind) = operands.OpenBracket behind

abbrev pub due_of : Due → operands.Due
due_of d = operands.due d.here (optional_of d.optional) (map around_of (reverse d.around.items))
