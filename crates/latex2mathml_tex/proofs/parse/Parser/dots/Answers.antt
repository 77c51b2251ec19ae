use Rattle.std.proofs.Common.{◌∙◌, subst, sym}
use Rattle.latex2mathml_tex_grammar.specs.{Dots.centered_dots, Dots.centers_dots, Makes.symbol, Rules.dots_before, Rules.gives, Rules.if_follows}
use Rattle.latex2mathml_tex_atoms.specs.Models.{context_of}
use Rattle.latex2mathml_tex.specs.Steps.{Begins}
use Rattle.latex2mathml_tex.proofs.{Putting.before_none, Putting.before_unit, RuleSteps.begun}
use Rattle.latex2mathml_tex.proofs.parse.Parser.dots.Goals as goal

pub returns-then-centers_dots-clause-holds : goal.returns-then-centers_dots-clause-holds
returns-then-centers_dots-clause-holds c = λ s g.
    let p = c.args.self.now in
    let k = context_of c.args.context in
    let begins : Begins (if_follows centers_dots (gives (symbol k.style k.alphabet centered_dots)) (dots_before k 0x2026)) 0 s p = begun g in
    let due = before_unit s p {test = centers_dots} (sym c.centers_dots.ensures.answer ∙ c.if-centers_dots.true) begins in
    c.symbol.ensures.holds s (subst (λ i. Begins (gives (symbol k.style k.alphabet centered_dots)) 0 s (record p { input = i })) (sym c.centers_dots.ensures.unchanged) due)

pub returns-clause-holds : goal.returns-clause-holds
returns-clause-holds c = λ s g.
    let p = c.args.self.now in
    let k = context_of c.args.context in
    let begins : Begins (if_follows centers_dots (gives (symbol k.style k.alphabet centered_dots)) (dots_before k 0x2026)) 0 s p = begun g in
    let due = before_none s p {test = centers_dots} (sym c.centers_dots.ensures.answer ∙ c.if-centers_dots.false) begins in
    c.dots_before.ensures.holds s (subst (λ i. Begins (dots_before k 0x2026) 0 s (record p { input = i })) (sym c.centers_dots.ensures.unchanged) due)
