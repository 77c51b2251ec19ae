use Rattle.std.proofs.Common.{arith}
use Rattle.latex2mathml_tex_grammar.specs.Rules.{a_box}
use Rattle.latex2mathml_tex_grammar.specs.Meaning.{Colored}
use Rattle.latex2mathml_tex.proofs.ColoredBoxes.{box_begins, box_within, no_color_leads, no_color_within}
use Rattle.latex2mathml_tex.proofs.parse.Parser.in_color.Goals as goal

pub returns-in_default-clause-holds : goal.returns-in_default-clause-holds
returns-in_default-clause-holds c = λ s g.
    no_color_leads a_box Colored c.args.place c.args.self.now c.take_color.new.self s c.args.context c.in_ok-color.ensures c.in_default.is g

pub returns-in_default-clause-step : goal.returns-in_default-clause-step
returns-in_default-clause-step c =
    no_color_within a_box Colored c.args.place c.args.self.now c.take_color.new.self c.in_ok-color.ensures c.in_default.is c.requires.begin.elements

pub returns-clause-holds : goal.returns-clause-holds
returns-clause-holds c = λ s g.
    c.open_box.ensures.holds s (box_begins a_box Colored c.args.place c.args.self.now c.take_color.new.self c.in-Some.color s c.args.context c.in_ok-color.ensures c.in-Some.is g)

pub returns-clause-step : goal.returns-clause-step
returns-clause-step c =
    box_within a_box Colored c.args.place c.args.self.now c.take_color.new.self c.in-Some.color 6 c.open_box.new.self c.open_box.new.next c.open_box.result c.in_ok-color.ensures c.in-Some.is (omega arith) c.open_box.ensures.step
