use Rattle.std.proofs.Common.{◌≡◌, ap, map, subst}
use Rattle.std.specs.Prelude.{IfOk}
use Rattle.latex2mathml_tex_grammar.specs.{Expansion.most_units, Expansion.most_uses, Macros.before, Operands.none_due}
use Rattle.latex2mathml_tex_units.specs.{Left.units_end, Left.units_left, MacroTables.macros_in, MacroTables.or_usual, Taking.unit_of}
use Rattle.latex2mathml_tex_units.proofs.Standing.{standing_all, standing_end}
use Rattle.latex2mathml_tex_units.proofs.macros.whole.list_rest.Goals as goal

pub returns-in-Some : goal.returns-in-Some
returns-in-Some c =
    standing_end c.is_empty.result c.args.units.now.items c.take_standing.new.units.items (units_left c.args.rest) (units_left c.take_standing.new.self) c.in-Some.place (macros_in c.args.macros.now) most_uses most_units none_due c.in_ok-take_standing.ensures (λ h name. ap (λ x. or_usual x name) (c.is_empty.ensures h name)) c.in-Some.ensures

pub returns-in-None : goal.returns-in-None
returns-in-None c =
    subst (λ units. IfOk c.expand.result (λ end. before (map unit_of c.expand.new.units.items) (units_end end) ≡ units))
    (standing_all c.is_empty.result c.args.units.now.items c.take_standing.new.units.items (units_left c.args.rest) (units_left c.take_standing.new.self) (macros_in c.args.macros.now) most_uses most_units none_due c.in_ok-take_standing.ensures (λ h name. ap (λ x. or_usual x name) (c.is_empty.ensures h name)))
    c.expand.ensures
