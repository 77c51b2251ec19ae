-- The entries that are left decide the look-up.
use Rattle.std.proofs.Common.{◌≡◌, length, map}
use Rattle.latex2mathml_tex_grammar.specs.Environments.{entry_environment}
use Rattle.latex2mathml_tex_units.specs.Environments.{entry_of}
use Rattle.latex2mathml_tex_units.proofs.environments.search.Given as goal

abbrev pub invariant-entries : goal.invariant-entries
invariant-entries l = entry_environment (map entry_of l.entries) l.name ≡ entry_environment (map entry_of l.table) l.name

abbrev pub decreases-entries : goal.decreases-entries
decreases-entries l = length l.entries
