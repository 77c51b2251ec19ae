-- The columns were appended as often as the counter says.
use Rattle.std.proofs.Common.{◌≡◌, ◌++◌, string_bytes}
use Rattle.std.specs.List.{repeat}
use Rattle.latex2mathml_tex_units.proofs.repetitions.append_repeated.Given as goal

abbrev pub invariant-loop : goal.invariant-loop
invariant-loop l = string_bytes l.out ≡ string_bytes l.fn.out ++ repeat l.counter l.columns
