use Rattle.std.proofs.Common.{◌≡◌, ◌≤◌, ◌-◌, ◌++◌, drop, length, map}
use Rattle.latex2mathml_tex_grammar.specs.Bars.{at_place}
use Rattle.latex2mathml_tex_units.specs.{Pending.units_in, Taking.piece_of}
use Rattle.latex2mathml_tex_units.proofs.macros.bars.push_pieces.Given as goal

abbrev pub invariant-pieces : goal.invariant-pieces
invariant-pieces l = record {
  within : l.pushed ≤ length l.pieces;
  done : units_in l.fn.done ++ at_place l.place (map piece_of l.pieces) ≡ units_in l.done ++ at_place l.place (map piece_of (drop l.pushed l.pieces));
}

abbrev pub decreases-pieces : goal.decreases-pieces
decreases-pieces l = length l.pieces - l.pushed
