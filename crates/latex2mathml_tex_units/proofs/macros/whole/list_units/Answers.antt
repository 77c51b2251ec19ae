use Rattle.std.proofs.Common.{ap, ◌∙◌}
use Rattle.latex2mathml_tex_grammar.specs.{Expanding.expansion, Expansion.most_units, Expansion.most_uses, Operands.none_due}
use Rattle.latex2mathml_tex_units.specs.{Left.units_left, MacroTables.macros_in, MacroTables.or_usual}
use Rattle.latex2mathml_tex_units.proofs.Standing.{listed_end}
use Rattle.latex2mathml_tex_units.proofs.macros.whole.list_units.Goals as goal

pub returns-in-Some : goal.returns-in-Some
returns-in-Some c =
    listed_end c.is_empty.result c.clear.new.self.items c.take_common.new.units.items (units_left c.new-lexer.result) (units_left c.take_common.new.self) c.in-Some.place (macros_in c.args.macros.now) most_uses most_units none_due c.clear.ensures.items c.in_ok-take_common.ensures (λ h name. ap (λ x. or_usual x name) (c.is_empty.ensures h name)) c.in-Some.ensures
    ∙ ap (expansion (macros_in c.args.macros.now) most_uses most_units none_due) c.new-lexer.ensures
