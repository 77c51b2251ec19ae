use Rattle.std.proofs.Common.{rules, map, ◌≡◌, ◌∙◌, ◌-◌, suc, ap, arith}
use Rattle.latex2mathml_tex_grammar.specs.{Arguments.and_then, Arguments.argument, Arguments.argument_before, Arguments.arguments, Arguments.with_first, Macros.parameters}
use Rattle.latex2mathml_tex_units.specs.Pending.{pending_units, units_in}
use Rattle.latex2mathml_tex_units.proofs.Grouping.{arguments_on, each_next, none_between, with_all}
use Rattle.latex2mathml_tex_units.proofs.macros.pending.Pending.take_plain_arguments.Goals as goal

pub all-preserved : goal.all-preserved
all-preserved c =
    let fewer : c.all.left ≡ suc (c.all.left - 1) = omega (arith, c.all-test.true) in
    let taken = ap (λ sign. argument_before sign c.args.place (pending_units c.all.self)) (none_between (c.all.left - 1)) ∙ c.in_ok-take_argument.ensures in
    arguments_on c.args.place (arguments c.args.place (parameters c.args.count) (pending_units c.args.self.now)) (pending_units c.all.self) (pending_units c.take_argument.new.self) c.all.found.items (parameters c.all.left) (parameters (c.all.left - 1)) c.push.new.self.items c.in_ok-take_argument.field-0 c.all.invariant (ap parameters fewer) taken c.in_ok-push.ensures.items

pub returns-in_err-take_argument : goal.returns-in_err-take_argument
returns-in_err-take_argument c =
    let fewer : c.all.left ≡ suc (c.all.left - 1) = omega (arith, c.all-test.true) in
    let whole : arguments c.args.place (parameters c.args.count) (pending_units c.args.self.now)
    ≡ with_all (map units_in c.all.found.items) (and_then (argument c.args.place (pending_units c.all.self)) (λ arg rest. with_first arg (arguments c.args.place (parameters (c.all.left - 1)) rest))) =
    c.all.invariant ∙ ap (with_all (map units_in c.all.found.items)) (each_next c.args.place c.all.left (c.all.left - 1) (pending_units c.all.self) fewer) in
    search rules
