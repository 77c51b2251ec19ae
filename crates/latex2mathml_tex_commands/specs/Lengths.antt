-- Lengths of the code, as the definitions have them.
use Rattle.std.specs.Prelude.{◌<◌, ◌≤◌}
use Rattle.latex2mathml_tex_grammar.specs.Lengths as lengths
use Rattle.latex2mathml_tex_commands.specs.declared.lengths.Length.{Length}

abbrev pub length_in : Length → lengths.Length
length_in l = record { is_negative = l.is_negative; number = l.number; scale = l.scale; is_behind_point = l.is_behind_point; first = l.first; last = l.last }

-- none of its numbers is greater than the greatest
pub record IsSmall (l : Length) : Type 0 where
  pub number : l.number ≤ 100000000000
  pub some : 0 < l.scale
  pub scale : l.scale ≤ 1000000
