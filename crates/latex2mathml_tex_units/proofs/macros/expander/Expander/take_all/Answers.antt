use Rattle.std.proofs.Common.{◌≡◌, ◌≤◌, ap, arith, map}
use Rattle.latex2mathml_tex_grammar.specs.Macros.{before, unit_count}
use Rattle.latex2mathml_tex_grammar.specs.Units.{Next}
use Rattle.latex2mathml_tex_units.specs.{Expanded.expanded_left, Taking.unit_of}
use Rattle.latex2mathml_tex_units.proofs.Whole.{listed_on, moved_all, moved_less}
use Rattle.latex2mathml_tex_units.proofs.macros.expander.Expander.take_all.Goals as goal

pub units-smaller : goal.units-smaller
units-smaller c =
    let taken : expanded_left c.units.self ≡ Next (unit_of c.in-Unit.unit) (expanded_left c.take.new.self) = rw c.in-Unit.is at c.in_ok-unit.ensures in
    let less : unit_count (expanded_left c.take_standing.new.self) ≤ unit_count (expanded_left c.take.new.self) = moved_less c.push.new.self.items c.take_standing.new.units.items _ _ c.in_ok-take_standing.ensures in
    omega (arith, less, ap unit_count taken)

pub units-preserved : goal.units-preserved
units-preserved c =
    let start = before (map unit_of c.args.units.now.items) (expanded_left c.args.self.now) in
    let taken : expanded_left c.units.self ≡ Next (unit_of c.in-Unit.unit) (expanded_left c.take.new.self) = rw c.in-Unit.is at c.in_ok-unit.ensures in
    let same = listed_on c.units.units.items c.push.new.self.items c.in-Unit.unit (expanded_left c.units.self) (expanded_left c.take.new.self) start c.units.invariant taken c.in_ok-push-in-Unit.ensures.items in
    moved_all c.push.new.self.items c.take_standing.new.units.items (expanded_left c.take.new.self) (expanded_left c.take_standing.new.self) start same c.in_ok-take_standing.ensures
