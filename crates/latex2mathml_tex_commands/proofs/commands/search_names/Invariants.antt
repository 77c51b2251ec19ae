-- The entries that are left decide the look-up, and their number falls.
use Rattle.std.proofs.Common.{length}
use Rattle.latex2mathml_tex_commands.specs.Meanings.{entry_of}
use Rattle.latex2mathml_tex_commands.proofs.Lookups.{Narrowed, its_meaning}
use Rattle.latex2mathml_tex_commands.proofs.commands.search_names.Given as goal

abbrev pub invariant-loop-entries : goal.invariant-loop-entries
invariant-loop-entries l = Narrowed its_meaning entry_of l.table l.entries l.name

abbrev pub decreases-loop-entries : goal.decreases-loop-entries
decreases-loop-entries l = length l.entries
