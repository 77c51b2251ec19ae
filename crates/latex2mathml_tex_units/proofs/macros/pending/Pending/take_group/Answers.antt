use Rattle.std.proofs.Common.{◌≡◌, suc, arith}
use Rattle.latex2mathml_tex_grammar.specs.Arguments.{group}
use Rattle.latex2mathml_tex_grammar.specs.Arguments as arguments
use Rattle.latex2mathml_tex_units.specs.{Pending.pending_units, Taking.unit_of}
use Rattle.latex2mathml_tex_units.proofs.Grouping.{group_on, step_close, step_open, step_other}
use Rattle.latex2mathml_tex_units.proofs.macros.pending.Pending.take_group.Goals as goal
use Rattle.latex2mathml_tex_units.proofs.macros.pending.Pending.take_group.Goals.{in-Open, in-Close+else-depth-eq0, in_default}

pub group-preserved : goal.group-preserved
group-preserved c =
    let most = c.group.invariant.depth in
    let len = c.in_ok-push-in-Unit.ensures.len in
    let taken = c.in-Unit.ensures in
    let step : group c.args.place (pending_units c.group.self) c.group.depth ≡ arguments.with_first (unit_of c.in-Unit.unit) (group c.args.place (pending_units c.take.new.self) c.match-unit.depth) =
    elim c.match-unit.branch [
      | in-Open w ↦ let e : c.match-unit.depth ≡ suc c.group.depth = omega (arith, w.depth-is) in step_open _ _ _ _ _ c.in-Unit.unit taken w.in-Open.is e
      | in-Close+else-depth-eq0 w ↦ let e : c.group.depth ≡ suc c.match-unit.depth = omega (arith, w.depth-is, w.if-depth-eq0.false) in step_close _ _ _ _ _ c.in-Unit.unit taken w.in-Close.is e
      | in_default w ↦ step_other _ _ _ _ _ c.in-Unit.unit taken w.in_default.not-Open w.in_default.not-Close w.depth-is
    ] in
    record {
      depth = elim c.match-unit.branch [ in-Open w ↦ omega (arith, most, len, w.depth-is) | in-Close+else-depth-eq0 w ↦ omega (arith, most, len, w.depth-is) | in_default w ↦ omega (arith, most, len, w.depth-is) ];
      inside = group_on c.args.place c.group.depth c.match-unit.depth (pending_units c.args.self.now) (pending_units c.group.self) (pending_units c.take.new.self) c.group.inside.items c.push.new.self.items c.in-Unit.unit c.group.invariant.inside step c.in_ok-push-in-Unit.ensures.items;
    }
