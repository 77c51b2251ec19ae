use Rattle.std.proofs.Common.{◌∙◌, subst, sym}
use Rattle.latex2mathml_tex_grammar.specs.{Dots.closes_dots, Makes.symbol, Rules.gives, SpacedSigns.spaced_dots, Symbols.Inner, Symbols.Sign}
use Rattle.latex2mathml_tex_atoms.specs.Models.{context_of}
use Rattle.latex2mathml_tex.specs.Steps.{Begins}
use Rattle.latex2mathml_tex.proofs.{Putting.before_none, Putting.before_unit}
use Rattle.latex2mathml_tex.proofs.parse.Parser.dots_before.Goals as goal

pub returns-then-closes_dots-clause-holds : goal.returns-then-closes_dots-clause-holds
returns-then-closes_dots-clause-holds c = λ s g.
    let p = c.args.self.now in
    let due = before_unit s p {test = closes_dots c.args.dots} (sym c.closes_dots.ensures.answer ∙ c.if-closes_dots.true) g in
    c.spaced_dots.ensures.holds s (subst (λ i. Begins (gives (spaced_dots c.args.dots)) 0 s (record p { input = i })) (sym c.closes_dots.ensures.unchanged) due)

pub returns-clause-holds : goal.returns-clause-holds
returns-clause-holds c = λ s g.
    let p = c.args.self.now in
    let k = context_of c.args.context in
    let due = before_none s p {test = closes_dots c.args.dots} (sym c.closes_dots.ensures.answer ∙ c.if-closes_dots.false) g in
    c.symbol.ensures.holds s (subst (λ i. Begins (gives (symbol k.style k.alphabet (Sign Inner c.args.dots))) 0 s (record p { input = i })) (sym c.closes_dots.ensures.unchanged) due)
