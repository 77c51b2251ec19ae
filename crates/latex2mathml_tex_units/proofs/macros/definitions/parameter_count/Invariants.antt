use Rattle.std.proofs.Common.{◌≡◌, ◌+◌, ◌≤◌, drop, map}
use Rattle.latex2mathml_tex_grammar.specs.Definitions.{parameter_count}
use Rattle.latex2mathml_tex_units.specs.Bodies.{taken_of}
use Rattle.latex2mathml_tex_units.proofs.macros.definitions.parameter_count.Given as goal

abbrev pub invariant-loop-taken : goal.invariant-loop-taken
invariant-loop-taken l = record {
  few : l.count ≤ l.taken-index;
  same : l.count + parameter_count (map taken_of (drop l.taken-index l.takes)) ≡ parameter_count (map taken_of l.takes);
}
