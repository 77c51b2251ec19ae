-- The names are those of the entries so far, the unread entries are counted, and each entry leaves one fewer to come.
use Rattle.std.proofs.Common.{◌≡◌, ◌+◌, ◌≤◌, map, string_bytes}
use Rattle.std.specs.Iterator.{IsFinite, size}
use Rattle.latex2mathml.specs.Entries.{names_of, unread_of}
use Rattle.latex2mathml.proofs.files.disk.gather.Given as goal

abbrev pub invariant-loop-entry : goal.invariant-loop-entry
invariant-loop-entry g l =
    (map string_bytes l.names.items ≡ names_of l.yielded)
    × (l.unread ≡ unread_of l.yielded)
    × IsFinite (g.I.Iterator.remaining l.entry-iterator)
    × (l.unread + size (g.I.Iterator.remaining l.entry-iterator) ≤ size (g.I.Iterator.remaining l.fn.entries))
