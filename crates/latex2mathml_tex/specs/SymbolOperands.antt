-- Operands that are one character.
use Rattle.std.specs.Prelude.{◌≡◌, ℕ, ◌<◌, ◌∷◌}
use Rattle.latex2mathml_builder.specs.Built.{Built, elements_in}
use Rattle.latex2mathml_tex_grammar.specs.Reading.{Read, ReadsOperand}
use Rattle.latex2mathml_tex_grammar.specs.Rows.{Operand}
use Rattle.latex2mathml_tex_units.specs.Left.{unit_count, units_at}
use Rattle.latex2mathml_tex_units.specs.declared.input.Input.{Input}
use Rattle.latex2mathml_tex_atoms.specs.Models.{context_of, operand_with}
use Rattle.latex2mathml_tex_atoms.specs.declared.atoms.{Context.Context, Operand.Operand as CodeOperand}

-- The operand that came next in this context was taken, and its element was put.
pub record TookOperand (x : CodeOperand) (c : Context) (before after : Input) (old new : Built) : Type 0 where
  pub operand : Operand
  pub is : operand_with x operand.element ≡ operand
  pub reads : (place : ℕ) → ReadsOperand place (context_of c) (units_at before) (Read operand (units_at after))
  pub put : elements_in new ≡ operand.element ∷ elements_in old
  pub fewer : unit_count (units_at after) < unit_count (units_at before)
