-- The entries that are left decide the look-up, and their number falls.
use Rattle.std.proofs.Common.{length}
use Rattle.latex2mathml_tex_units.specs.Bodies.{named_entry}
use Rattle.latex2mathml_tex_commands.proofs.Lookups.{Narrowed}
use Rattle.latex2mathml_tex_units.proofs.UsualLookups.{its_macro}
use Rattle.latex2mathml_tex_units.proofs.macros.usual.find.Given as goal

abbrev pub invariant-loop-entries : goal.invariant-loop-entries
invariant-loop-entries l = Narrowed its_macro named_entry l.table l.entries l.name

abbrev pub decreases-loop-entries : goal.decreases-loop-entries
decreases-loop-entries l = length l.entries
