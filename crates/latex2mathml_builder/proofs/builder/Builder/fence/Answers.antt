use Rattle.std.proofs.Common.{◌≡◌, ◌∷◌, ◌∙◌, OnOk, true, ap, drop, length, subst}
use Rattle.latex2mathml_elements.specs.Attributes.{plain}
use Rattle.latex2mathml_elements.specs.Element.{Mrow, children, container}
use Rattle.latex2mathml_builder.specs.Built.{elements_in}
use Rattle.latex2mathml_builder.proofs.Sound.{children_back}
use Rattle.latex2mathml_builder.proofs.builder.Builder.fence.Goals as goal

pub returns-clause-elements : goal.returns-clause-elements
returns-clause-elements c =
    let b = c.args.self.now in
    let first = ap length c.as_slice-first.ensures.value ∙ ap (λ d. length d.settled) c.self.view_is in
    let back = children_back b.texts b.settled (elements_in b) _ 3 true first c.requires in
    subst (λ l. OnOk c.wrap.result (elements_in c.wrap.new.self ≡ container Mrow plain (children l) ∷ drop 3 (elements_in b))) back c.wrap.ensures.elements
