use Rattle.std.proofs.Common.{arith}
use Rattle.latex2mathml_tokens.proofs.Keys.{fits}
use Rattle.latex2mathml_tex_commands.proofs.commands.key_of.Goals as goal

pub overflow_mul-key : goal.overflow_mul-key
overflow_mul-key c = omega (arith, fits _ _ _ 0 c.loop-place.invariant c.loop-place-test.true (omega arith))

pub overflow_add-key : goal.overflow_add-key
overflow_add-key c = omega (arith, fits _ _ _ _ c.loop-place.invariant c.loop-place-test.true c.byte_at.ensures.byte)
