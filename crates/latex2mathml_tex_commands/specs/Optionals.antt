-- What may come before operands, as the definitions have it.
use Rattle.latex2mathml_tex_grammar.specs.Operands as operands
use Rattle.latex2mathml_tex_commands.specs.declared.operands.Optional.{Optional}
use Rattle.latex2mathml_tex_commands.specs.declared.operands.Optional.TheVariants as optional

abbrev pub optional_of : Optional → operands.Optional
optional_of optional.Nothing = operands.Nothing
optional_of (optional.Star behind) = operands.Star behind
optional_of (optional.Brackets behind) = operands.Brackets behind
