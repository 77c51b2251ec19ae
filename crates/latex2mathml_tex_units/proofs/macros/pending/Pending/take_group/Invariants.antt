use Rattle.std.proofs.Common.{◌≡◌, ◌≤◌, map, vec_len}
use Rattle.latex2mathml_tex_grammar.specs.{Arguments.group, Macros.unit_count}
use Rattle.latex2mathml_tex_units.specs.{Pending.pending_units, Taking.unit_of}
use Rattle.latex2mathml_tex_units.proofs.Grouping.{with_all}
use Rattle.latex2mathml_tex_units.proofs.macros.pending.Pending.take_group.Given as goal

abbrev pub invariant-group : goal.invariant-group
invariant-group l = record {
  depth : l.depth ≤ vec_len l.inside;
  inside : group l.place (pending_units l.fn.self) 0 ≡ with_all (map unit_of l.inside.items) (group l.place (pending_units l.self) l.depth);
}

abbrev pub decreases-group : goal.decreases-group
decreases-group l = unit_count (pending_units l.self)
