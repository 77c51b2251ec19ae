use Rattle.std.proofs.Common.{◌≡◌, ◌∙◌, Option, ap, arith, option_map, subst, sym}
use Rattle.latex2mathml_tex_grammar.specs.{Makes.outlined_fraction, Symbols.smaller}
use Rattle.latex2mathml_tex_grammar.specs.Rules.{an_outline, an_outlined_fraction, of_two, own_style, styled}
use Rattle.latex2mathml_tex_commands.specs.Meanings.{style_of}
use Rattle.latex2mathml_tex.specs.{Frames.after_first, Frames.context_at, TakenBy.TookBy}
use Rattle.latex2mathml_tex_atoms.specs.{Models.context_of, Outlines.outline_of}
use Rattle.latex2mathml_tex.specs.Steps.{Begins, elements_of, level}
use Rattle.latex2mathml_tex_atoms.specs.declared.outlines.Outline.{Outline}
use Rattle.latex2mathml_tex.specs.declared.parse.frames.First.TheVariants as first
use Rattle.latex2mathml_tex.proofs.{HandingOn.handed_on, HandingOn.handed_within, HandingOn.stopped, HandingOn.stopped_within, Leading.operand_due, RuleSteps.own_style_is}
use Rattle.latex2mathml_tex.proofs.parse.Parser.general_fraction.Goals as goal

pub returns-in_default-clause-holds : goal.returns-in_default-clause-holds
returns-in_default-clause-holds c = λ s g.
    let p = c.args.self.now in
    let q = c.take_outline.new.self in
    let place = c.args.place in
    let took = subst (λ (x : Option Outline). TookBy (an_outline place) p q (option_map outline_of x)) c.in_default.is c.in_ok-outline.ensures in
    stopped (an_outline place) p q s (an_outlined_fraction place (context_of c.args.context)) took g

pub returns-in_default-clause-step : goal.returns-in_default-clause-step
returns-in_default-clause-step c =
    let p = c.args.self.now in
    let q = c.take_outline.new.self in
    let place = c.args.place in
    let took = subst (λ (x : Option Outline). TookBy (an_outline place) p q (option_map outline_of x)) c.in_default.is c.in_ok-outline.ensures in
    stopped_within (an_outline place) p q 13 (omega arith) c.requires.begin.elements took

pub returns-clause-holds : goal.returns-clause-holds
returns-clause-holds c = λ s g.
    let p = c.args.self.now in
    let q = c.take_outline.new.self in
    let place = c.args.place in
    let outline = c.in-Some.outline in
    let own = option_map style_of outline.own in
    let around = context_of c.args.context in
    let took = subst (λ (x : Option Outline). TookBy (an_outline place) p q (option_map outline_of x)) c.in-Some.is c.in_ok-outline.ensures in
    let begins = handed_on (an_outline place) p q (outline_of outline) s (an_outlined_fraction place (context_of c.args.context)) took g in
    let code = c.unwrap_or-style.result in
    let style : own_style own (style_of c.args.context.style) ≡ style_of code = sym (ap style_of c.unwrap_or-style.ensures ∙ own_style_is outline.own c.args.context.style) in
    let part = styled around (style_of c.smaller.result) in
    let chosen = subst (λ st. Begins (of_two place (styled around (smaller st)) (styled around (smaller st)) (λ above below. outlined_fraction (outline_of outline) st above.element below.element)) 0 s q) style begins in
    let due = subst (λ st. Begins (of_two place (styled around st) (styled around st) (λ above below. outlined_fraction (outline_of outline) (style_of code) above.element below.element)) 0 s q) (sym c.smaller.ensures) chosen in
    c.open.ensures.holds s due.style (rw c.styled-part.ensures (operand_due (after_first (first.Outlined outline code) place part (context_at (level 0 s q)) (elements_of q)) due.leads))

pub returns-clause-step : goal.returns-clause-step
returns-clause-step c =
    let p = c.args.self.now in
    let q = c.take_outline.new.self in
    let place = c.args.place in
    let outline = c.in-Some.outline in
    let took = subst (λ (x : Option Outline). TookBy (an_outline place) p q (option_map outline_of x)) c.in-Some.is c.in_ok-outline.ensures in
    handed_within (an_outline place) p q (outline_of outline) 10 13 c.open.new.self c.open.new.next c.open.result took (omega arith) c.open.ensures.step
