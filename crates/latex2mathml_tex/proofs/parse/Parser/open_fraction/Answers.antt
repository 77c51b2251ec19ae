use Rattle.std.proofs.Common.{◌≡◌, ◌∙◌, ap, option_map, subst, sym}
use Rattle.latex2mathml_tex_grammar.specs.{Makes.fraction, Symbols.smaller}
use Rattle.latex2mathml_tex_grammar.specs.Rules.{of_two, own_style, styled}
use Rattle.latex2mathml_tex.specs.Frames.{after_first, context_at}
use Rattle.latex2mathml_tex_commands.specs.Meanings.{fraction_rule_of, style_of}
use Rattle.latex2mathml_tex_atoms.specs.Models.{context_of}
use Rattle.latex2mathml_tex.specs.Steps.{Begins, elements_of, level}
use Rattle.latex2mathml_tex.specs.declared.parse.frames.First.TheVariants as first
use Rattle.latex2mathml_tex.proofs.{RuleSteps.own_style_is, Leading.operand_due}
use Rattle.latex2mathml_tex.proofs.parse.Parser.open_fraction.Goals as goal

pub returns-clause-holds : goal.returns-clause-holds
returns-clause-holds c = λ s g.
    let p = c.args.self.now in
    let place = c.args.place in
    let rule = fraction_rule_of c.args.rule in
    let own = option_map style_of c.args.own in
    let around = context_of c.args.context in
    let code = c.unwrap_or-style.result in
    let style : own_style own (style_of c.args.context.style) ≡ style_of code = sym (ap style_of c.unwrap_or-style.ensures ∙ own_style_is c.args.own c.args.context.style) in
    let part = styled around (style_of c.smaller.result) in
    let chosen = subst (λ st. Begins (of_two place (styled around (smaller st)) (styled around (smaller st)) (λ above below. fraction rule own st above.element below.element)) 0 s p) style g in
    let begins = subst (λ st. Begins (of_two place (styled around st) (styled around st) (λ above below. fraction rule own (style_of code) above.element below.element)) 0 s p) (sym c.smaller.ensures) chosen in
    c.open.ensures.holds s g.style (rw c.styled-part.ensures (operand_due (after_first (first.Fraction c.args.rule c.args.own code) place part (context_at (level 0 s p)) (elements_of p)) begins.leads))
