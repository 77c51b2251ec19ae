use Rattle.std.proofs.Common.{◌≡◌, ◌≤◌, drop, length, map}
use Rattle.latex2mathml_tex_grammar.specs.Macros.{before}
use Rattle.latex2mathml_tex_units.specs.{Pending.pending_units, Taking.unit_of}
use Rattle.latex2mathml_tex_units.proofs.macros.pending.Pending.put_all.Given as goal

abbrev pub invariant-units : goal.invariant-units
invariant-units l = record {
  within : l.left ≤ length l.units;
  put : pending_units l.self ≡ before (map unit_of (drop l.left l.units)) (pending_units l.fn.self);
}

abbrev pub decreases-units : goal.decreases-units
decreases-units l = l.left
