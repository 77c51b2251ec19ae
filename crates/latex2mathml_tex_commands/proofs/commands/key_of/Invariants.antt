-- The key of the bytes so far.
use Rattle.std.proofs.Common.{◌-◌}
use Rattle.latex2mathml_tokens.proofs.Keys.{Begun}
use Rattle.latex2mathml_tex_commands.proofs.commands.key_of.Given as goal

abbrev pub invariant-loop-place : goal.invariant-loop-place
invariant-loop-place l = Begun l.name l.key l.place

abbrev pub decreases-loop-place : goal.decreases-loop-place
decreases-loop-place l = 8 - l.place
