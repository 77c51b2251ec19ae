-- one member was added for each round so far
use Rattle.std.proofs.Common.{◌≡◌, ◌++◌, List, All, length}
use Rattle.latex2mathml.specs.{Files.IsListed, declared.error.FileFault.TheVariants.Entry, declared.files.Unconverted.Unconverted}
use Rattle.latex2mathml.proofs.files.add_unread.Given as goal

abbrev pub invariant-loop-entry : goal.invariant-loop-entry
invariant-loop-entry l =
    (added : List Unconverted)
    × (l.unconverted.items ≡ l.initial.unconverted.items ++ added)
    × All (IsListed l.path Entry) added
    × (length added ≡ l._entry)
