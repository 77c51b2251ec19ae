use Rattle.std.proofs.Common.{◌≤◌, drop, length, map, true}
use Rattle.latex2mathml_tex_grammar.specs.Macros.{put}
use Rattle.latex2mathml_tex_units.specs.{Bodies.part_of, Pending.pending_units, Putting.IsPut, Putting.arguments_at}
use Rattle.latex2mathml_tex_units.proofs.macros.pending.Pending.put_body.Given as goal

abbrev pub invariant-parts : goal.invariant-parts
invariant-parts l = record {
  within : l.left ≤ length l.body;
  put : IsPut true (put (arguments_at l.place l.arguments) l.place (map part_of (drop l.left l.body))) l.fn.room l.room (pending_units l.fn.self) (pending_units l.self);
}

abbrev pub decreases-parts : goal.decreases-parts
decreases-parts l = l.left
