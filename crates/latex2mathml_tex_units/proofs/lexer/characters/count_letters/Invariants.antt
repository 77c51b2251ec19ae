-- The bytes so far are letters.
use Rattle.std.proofs.Common.{◌-◌, ◌≤◌, length}
use Rattle.latex2mathml_tex_units.specs.Runs.{AreLetters}
use Rattle.latex2mathml_tex_units.proofs.lexer.characters.count_letters.Given as goal

abbrev pub invariant-loop-count : goal.invariant-loop-count
invariant-loop-count l = record {
  within : l.count ≤ length l.text;
  letters : AreLetters l.text l.count;
}

abbrev pub decreases-loop-count : goal.decreases-loop-count
decreases-loop-count l = length l.text - l.count
