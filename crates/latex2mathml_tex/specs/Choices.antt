-- What a choice by style shows, which takes four operands. Operands hold no elements here.
use Rattle.std.specs.Prelude.{ℕ}
use Rattle.latex2mathml_tex_commands.specs.declared.meaning.Style.{Style}
use Rattle.latex2mathml_tex_commands.specs.declared.meaning.Style.TheVariants as style
use Rattle.latex2mathml_tex_atoms.specs.declared.atoms.Operand.{Operand}

-- what is shown in this style, if it is the operand for a line of text, or the one before it
abbrev pub in_line : Style → Operand → Operand → Operand
in_line style.InDisplay before operand = before
in_line s before operand = operand

-- what is shown in this style: the operand for scripts, or what is shown of those before it
abbrev pub in_scripts : Style → Operand → Operand → Operand
in_scripts style.InScript before operand = operand
in_scripts s before operand = before

-- how many of the operands come after the one that is shown in this style
abbrev pub depth_in : Style → ℕ
depth_in style.InDisplay = 3
depth_in style.InText = 2
depth_in style.InScript = 1
