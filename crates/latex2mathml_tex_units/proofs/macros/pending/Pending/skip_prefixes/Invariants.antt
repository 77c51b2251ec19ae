use Rattle.std.proofs.Common.{◌≡◌}
use Rattle.latex2mathml_tex_grammar.specs.{DefinitionTexts.past_prefixes, Macros.unit_count}
use Rattle.latex2mathml_tex_units.specs.Pending.{pending_units}
use Rattle.latex2mathml_tex_units.proofs.macros.pending.Pending.skip_prefixes.Given as goal

abbrev pub invariant-prefixes : goal.invariant-prefixes
invariant-prefixes l = past_prefixes (pending_units l.self) ≡ past_prefixes (pending_units l.fn.self)

abbrev pub decreases-prefixes : goal.decreases-prefixes
decreases-prefixes l = unit_count (pending_units l.self)
