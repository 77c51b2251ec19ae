use Rattle.std.proofs.Common.{◌≡◌}
use Rattle.latex2mathml_tex_grammar.specs.{Macros.unit_count, Next.past_space}
use Rattle.latex2mathml_tex_units.specs.Pending.{pending_units}
use Rattle.latex2mathml_tex_units.proofs.macros.pending.Pending.skip_space.Given as goal

abbrev pub invariant-space : goal.invariant-space
invariant-space l = past_space (pending_units l.self) ≡ past_space (pending_units l.fn.self)

abbrev pub decreases-space : goal.decreases-space
decreases-space l = unit_count (pending_units l.self)
