use Rattle.std.proofs.Common.{◌≡◌, [], ◌∷◌, ap, ◌∙◌}
use Rattle.latex2mathml_elements.specs.Element.{Mrow, children, container}
use Rattle.latex2mathml_builder.specs.Built.{elements_in}
use Rattle.latex2mathml_tex_grammar.specs.Rows.{row_element}
use Rattle.latex2mathml_tex.specs.Steps.{elements_of}
use Rattle.latex2mathml_tex.proofs.Rows.{mark_begins}
use Rattle.latex2mathml_tex.proofs.parse.Parser.begin_scripts.Goals as goal

pub returns-clause-holds : goal.returns-clause-holds
returns-clause-holds c = λ s g.
    let p = c.args.self.now in
    let put : elements_in c.container.new.self ≡ row_element [] ∷ elements_of p = c.in_ok-container.ensures.elements ∙ ap (λ a. container Mrow a (children []) ∷ elements_of p) c.plain.ensures in
    c.take_mark.ensures.holds s (mark_begins s p c.container.new.self c.args.mark c.args.place c.new-base.result c.none.result put c.new-base.ensures (rw c.new-base.ensures at c.none.ensures) g)
