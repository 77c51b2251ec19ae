use Rattle.std.proofs.Common.{map}
use Rattle.latex2mathml_tex_units.specs.{Bodies.part_of, Pending.pending_units, Putting.arguments_at}
use Rattle.latex2mathml_tex_units.proofs.InBraces.{braces_put_if, no_inside}
use Rattle.latex2mathml_tex_units.proofs.macros.pending.Pending.put_in_braces.Goals as goal

pub returns-then-not-branch-2 : goal.returns-then-not-branch-2
returns-then-not-branch-2 c =
    no_inside (arguments_at c.args.place c.args.arguments.now) c.args.place (map part_of c.args.body.now) c.args.room.now c.put_units.new.room c.put_body.new.room (pending_units c.args.self.now) (pending_units c.put_units.new.self) (pending_units c.put_units.new.self) (pending_units c.put_body.new.self)
    (rw c.if-not-branch.false at c.in_ok-put_units.ensures) (rw c.if-not-branch-2.true at c.in_ok-put_body.ensures)

pub returns : goal.returns
returns c =
    braces_put_if (arguments_at c.args.place c.args.arguments.now) c.args.place (map part_of c.args.body.now) c.put_units-2.result c.args.room.now c.put_units.new.room c.put_body.new.room c.put_units-2.new.room (pending_units c.args.self.now) (pending_units c.put_units.new.self) (pending_units c.put_body.new.self) (pending_units c.put_units-2.new.self)
    (rw c.if-not-branch.false at c.in_ok-put_units.ensures) (rw c.if-not-branch-2.false at c.in_ok-put_body.ensures) c.put_units-2.ensures
