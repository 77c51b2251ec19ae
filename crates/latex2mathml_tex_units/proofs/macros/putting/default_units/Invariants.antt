use Rattle.std.proofs.Common.{◌≡◌, ◌≤◌, ◌-◌, ◌++◌, [], drop, length, map}
use Rattle.latex2mathml_tex_grammar.specs.Macros.{put}
use Rattle.latex2mathml_tex_units.specs.{Bodies.part_of, Pending.units_in}
use Rattle.latex2mathml_tex_units.proofs.macros.putting.default_units.Given as goal

abbrev pub invariant-parts : goal.invariant-parts
invariant-parts l = record {
  within : l.put ≤ length l.default;
  done : put [] l.place (map part_of l.default) ≡ units_in l.units ++ put [] l.place (map part_of (drop l.put l.default));
}

abbrev pub decreases-parts : goal.decreases-parts
decreases-parts l = length l.default - l.put
