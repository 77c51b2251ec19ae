use Rattle.std.proofs.Common.{◌≡◌, ◌∙◌, suc, false, sym, arith}
use Rattle.latex2mathml_tex_grammar.specs.{Arguments.is_end, Arguments.up_to, Arguments.with_first, Next.begins_with, Refusal.refusal_at}
use Rattle.latex2mathml_tex_units.specs.{Pending.pending_units, Taking.kind_of, Taking.piece_of, Taking.unit_of}
use Rattle.latex2mathml_tex_units.proofs.Optional.{before_close, before_open, before_other, up_to_on}
use Rattle.latex2mathml_tex_units.proofs.macros.pending.Pending.take_up_to.Goals as goal
use Rattle.latex2mathml_tex_units.proofs.macros.pending.Pending.take_up_to.Goals.{in-Open, in-Close+else-depth-eq0, in_default}

pub units-preserved : goal.units-preserved
units-preserved c =
    let sign = piece_of c.args.sign in
    let r = refusal_at (kind_of c.args.fault) c.args.place in
    let most = c.units.invariant.depth in
    let len = c.in_ok-push-in-Unit.ensures.len in
    let taken = c.in-Unit.ensures in
    let other : begins_with (is_end sign c.units.depth) (pending_units c.units.self) ≡ false = sym c.ends_here.ensures ∙ c.if-ends_here.false in
    let step : up_to sign r (pending_units c.units.self) c.units.depth ≡ with_first (unit_of c.in-Unit.unit) (up_to sign r (pending_units c.take.new.self) c.match-unit.depth) =
    elim c.match-unit.branch [
      | in-Open w ↦ let e : c.match-unit.depth ≡ suc c.units.depth = omega (arith, w.depth-is) in before_open sign r _ _ _ _ c.in-Unit.unit taken w.in-Open.is e
      | in-Close+else-depth-eq0 w ↦ let e : c.units.depth ≡ suc c.match-unit.depth = omega (arith, w.depth-is, w.if-depth-eq0.false) in before_close sign r _ _ _ _ c.in-Unit.unit taken w.in-Close.is e
      | in_default w ↦ before_other sign r _ _ _ _ c.in-Unit.unit taken w.in_default.not-Open w.in_default.not-Close other w.depth-is
    ] in
    record {
      depth = elim c.match-unit.branch [ in-Open w ↦ omega (arith, most, len, w.depth-is) | in-Close+else-depth-eq0 w ↦ omega (arith, most, len, w.depth-is) | in_default w ↦ omega (arith, most, len, w.depth-is) ];
      inside = up_to_on sign r c.units.depth c.match-unit.depth (pending_units c.args.self.now) (pending_units c.units.self) (pending_units c.take.new.self) c.units.inside.items c.push.new.self.items c.in-Unit.unit c.units.invariant.inside step c.in_ok-push-in-Unit.ensures.items;
    }
