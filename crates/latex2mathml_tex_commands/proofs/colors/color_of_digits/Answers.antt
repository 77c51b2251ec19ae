use Rattle.std.proofs.Common.{sym, arith}
use Rattle.latex2mathml_tex_commands.proofs.Colored.{by_six, by_three, no_color}
use Rattle.latex2mathml_tex_commands.proofs.colors.color_of_digits.Goals as goal

pub returns-in-len3 : goal.returns-in-len3
returns-in-len3 c = by_three c.args.digits.now _ _ _ _ (omega (arith, c.in-len3.len_at_least, c.in-len3.len_below)) c.component.ensures c.component-in-len3.ensures c.component-in-len3-2.ensures c.with_components.ensures

pub returns-in-len6 : goal.returns-in-len6
returns-in-len6 c = by_six c.args.digits.now _ _ _ _ (omega (arith, c.in-len6.len_at_least, c.in-len6.len_below)) c.component-in-len6.ensures c.component-in-len6-2.ensures c.component-in-len6-3.ensures c.with_components-in-len6.ensures

pub returns-in_default : goal.returns-in_default
returns-in_default c =
    sym (no_color c.args.digits.now (λ e. absurd (omega (arith, e, c.in_default.len_below))) (λ e. absurd (omega (arith, e, c.in_default.len_below))))

pub returns-in_default-2 : goal.returns-in_default-2
returns-in_default-2 c =
    sym (no_color c.args.digits.now (λ e. absurd (omega (arith, e, c.in_default.len_at_least))) (λ e. absurd (omega (arith, e, c.in_default.len_below))))

pub returns-in_default-3 : goal.returns-in_default-3
returns-in_default-3 c =
    sym (no_color c.args.digits.now (λ e. absurd (omega (arith, e, c.in_default.len_at_least))) (λ e. absurd (omega (arith, e, c.in_default.len_at_least))))
