-- The letters that are left decide the look-up.
use Rattle.std.proofs.Common.{◌≡◌, ℕ, drop}
use Rattle.latex2mathml_tex_grammar.specs.Alphabets.{looked_up}
use Rattle.latex2mathml_tex_commands.proofs.alphabets.looked_up.Given as goal

abbrev pub invariant-loop-letter : goal.invariant-loop-letter
invariant-loop-letter l = (other : ℕ) → looked_up (drop l.letter-index l.elsewhere) l.c other ≡ looked_up l.elsewhere l.c other
