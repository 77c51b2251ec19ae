-- What was written so far, followed by the signs that are left with repetitions written out, is all.
use Rattle.std.proofs.Common.{◌≡◌, ◌++◌, string_bytes, length}
use denote.Text.{Utf8}
use denote.Shadow.{shadow}
use Rattle.latex2mathml_tex_grammar.specs.Environments.{written_out}
use Rattle.latex2mathml_tex_units.proofs.repetitions.written_out.Given as goal

abbrev pub invariant-loop-before : goal.invariant-loop-before
invariant-loop-before l = shadow (Utf8 l.rest) × (string_bytes l.out ++ written_out l.rest ≡ written_out (string_bytes l.fn.signs))

abbrev pub decreases-loop-before : goal.decreases-loop-before
decreases-loop-before l = length l.rest
