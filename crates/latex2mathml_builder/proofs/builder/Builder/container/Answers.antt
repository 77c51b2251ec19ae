use Rattle.std.proofs.Common.{◌≡◌, ◌∷◌, ◌∙◌, OnOk, false, ap, arith, drop, length, reverse, subst, take}
use Rattle.latex2mathml_elements.specs.Element.{children, container}
use Rattle.latex2mathml_builder.specs.Built.{elements_in}
use Rattle.latex2mathml_attributes.specs.Names.{attributes_if_any, container_of}
use Rattle.latex2mathml_builder.proofs.Sound.{children_back, sound_push}
use Rattle.latex2mathml_builder.proofs.builder.Builder.container.Goals as goal

pub invariant_of-self-then-count-eq0 : goal.invariant_of-self-then-count-eq0
invariant_of-self-then-count-eq0 c = rw c.in_ok-push.ensures.items (sound_push _ _ _ _ c.self.invariant (omega arith) tt tt)

pub returns-clause-elements : goal.returns-clause-elements
returns-clause-elements c =
    let b = c.args.self.now in
    let first = ap length c.as_slice-first.ensures.value ∙ ap (λ d. length d.settled) c.self.view_is in
    subst (λ a. OnOk c.wrap.result (elements_in c.wrap.new.self ≡ container (container_of c.args.tag) a (children (reverse (take c.args.count (elements_in b)))) ∷ drop c.args.count (elements_in b))) c.if_any-attributes.ensures
    (subst (λ l. OnOk c.wrap.result (elements_in c.wrap.new.self ≡ container (container_of c.args.tag) (attributes_if_any c.if_any-attributes.result) (children l) ∷ drop c.args.count (elements_in b)))
    (children_back b.texts b.settled (elements_in b) _ c.args.count false first c.requires) c.wrap.ensures.elements)
