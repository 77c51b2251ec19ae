use Rattle.std.proofs.Common.{◌≡◌, ◌≤◌, map, vec_len}
use Rattle.latex2mathml_tex_grammar.specs.{Arguments.up_to, Macros.unit_count, Refusal.refusal_at}
use Rattle.latex2mathml_tex_units.specs.{Pending.pending_units, Taking.kind_of, Taking.piece_of, Taking.unit_of}
use Rattle.latex2mathml_tex_units.proofs.Grouping.{with_all}
use Rattle.latex2mathml_tex_units.proofs.macros.pending.Pending.take_up_to.Given as goal

abbrev pub invariant-units : goal.invariant-units
invariant-units l = record {
  depth : l.depth ≤ vec_len l.inside;
  inside : up_to (piece_of l.sign) (refusal_at (kind_of l.fault) l.place) (pending_units l.fn.self) 0 ≡ with_all (map unit_of l.inside.items) (up_to (piece_of l.sign) (refusal_at (kind_of l.fault) l.place) (pending_units l.self) l.depth);
}

abbrev pub decreases-units : goal.decreases-units
decreases-units l = unit_count (pending_units l.self)
