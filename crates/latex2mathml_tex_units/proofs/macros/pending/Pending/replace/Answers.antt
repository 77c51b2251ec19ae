use Rattle.std.proofs.Common.{◌-◌, ap, arith, option_map, subst, sym, ◌∙◌}
use Rattle.latex2mathml_tex_grammar.specs.Units as units
use Rattle.latex2mathml_tex_units.specs.{Bodies.form_in, Pending.pending_units, Putting.Replaces}
use Rattle.latex2mathml_tex_units.proofs.Forms.{put_as}
use Rattle.latex2mathml_tex_units.proofs.macros.pending.Pending.replace.Goals as goal

pub returns-in_default : goal.returns-in_default
returns-in_default c = λ table piece.
    let taken = ap (λ star. (form_in c.args.found.now (option_map (λ body. body.now) star), pending_units c.take_star.new.self)) (sym c.in_default.is) ∙ c.take_star.ensures in
    subst (λ turn. Replaces c.put_replacement.result turn table (c.args.uses.now - 1) c.put_replacement.new.room (pending_units c.put_replacement.new.self))
    (put_as c.args.whole table c.args.uses.now (c.args.uses.now - 1) c.args.room.now (units.unit piece c.args.place) _ _ _ _ _ _ (omega (arith, c.if-uses-eq0.false)) taken c.in_ok-arguments.ensures)
    (rw (← c.deref.ensures.value) (c.put_replacement.ensures table (c.args.uses.now - 1) piece))

pub returns : goal.returns
returns c = λ table piece.
    let taken = ap (λ star. (form_in c.args.found.now (option_map (λ body. body.now) star), pending_units c.take_star.new.self)) (sym c.in-Some.is) ∙ c.take_star.ensures in
    subst (λ turn. Replaces c.put_replacement-2.result turn table (c.args.uses.now - 1) c.put_replacement-2.new.room (pending_units c.put_replacement-2.new.self))
    (put_as c.args.whole table c.args.uses.now (c.args.uses.now - 1) c.args.room.now (units.unit piece c.args.place) _ _ _ _ _ _ (omega (arith, c.if-uses-eq0.false)) taken c.in_ok-given.ensures)
    (c.put_replacement-2.ensures table (c.args.uses.now - 1) piece)
