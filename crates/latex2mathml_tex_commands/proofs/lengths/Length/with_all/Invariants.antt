-- What the characters so far say, with those that are left, is what all of them say.
use Rattle.std.proofs.Common.{◌≡◌, drop}
use Rattle.latex2mathml_tex_grammar.specs.Lengths as lengths
use Rattle.latex2mathml_tex_commands.specs.Lengths.{IsSmall, length_in}
use Rattle.latex2mathml_tex_commands.proofs.lengths.Length.with_all.Given as goal

abbrev pub invariant-characters : goal.invariant-characters
invariant-characters l = record {
  so_far : lengths.with_all (length_in l.fn.self) l.text ≡ lengths.with_all (length_in l.length) (drop l.c-index l.text);
  small : IsSmall l.length;
}
