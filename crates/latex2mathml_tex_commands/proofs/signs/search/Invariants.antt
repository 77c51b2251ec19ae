-- The entries that are left decide the look-up, and their number falls.
use Rattle.std.proofs.Common.{length}
use Rattle.latex2mathml_tex_commands.proofs.SignLookups.{Narrowed}
use Rattle.latex2mathml_tex_commands.proofs.signs.search.Given as goal

abbrev pub invariant-loop-entries : goal.invariant-loop-entries
invariant-loop-entries l = Narrowed l.table l.entries l.c

abbrev pub decreases-loop-entries : goal.decreases-loop-entries
decreases-loop-entries l = length l.entries
