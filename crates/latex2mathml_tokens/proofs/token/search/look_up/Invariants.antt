-- The entries that are left decide the look-up, and their number decreases.
use Rattle.std.proofs.Common.{length}
use Rattle.latex2mathml_tokens.proofs.Lookups.{Narrowed}
use Rattle.latex2mathml_tokens.proofs.token.search.look_up.Given as goal

abbrev pub invariant-loop-entries : goal.invariant-loop-entries
invariant-loop-entries l = Narrowed l.entries l.name l.comparisons

abbrev pub decreases-loop-entries : goal.decreases-loop-entries
decreases-loop-entries l = length l.entries
