use Rattle.std.proofs.Common.{◌≡◌, ◌∷◌, ◌∙◌, OnOk, ap, drop, length, reverse, subst, take}
use Rattle.latex2mathml_builder.specs.{Built.elements_in, Stacks.ordered, Stacks.pair_with}
use Rattle.latex2mathml_attributes.specs.Names.{attributes_if_any, pair_of}
use Rattle.latex2mathml_builder.proofs.Sound.{children_back}
use Rattle.latex2mathml_builder.proofs.builder.Builder.pair.Goals as goal

pub returns-clause-elements : goal.returns-clause-elements
returns-clause-elements c =
    let b = c.args.self.now in
    let first = ap length c.as_slice-first.ensures.value ∙ ap (λ d. length d.settled) c.self.view_is in
    subst (λ a. OnOk c.wrap.result (elements_in c.wrap.new.self ≡ pair_with (pair_of c.args.tag) a (ordered c.args.is_exchanged (reverse (take 2 (elements_in b)))) ∷ drop 2 (elements_in b))) c.if_any.ensures
    (subst (λ l. OnOk c.wrap.result (elements_in c.wrap.new.self ≡ pair_with (pair_of c.args.tag) (attributes_if_any c.if_any.result) l ∷ drop 2 (elements_in b)))
    (children_back b.texts b.settled (elements_in b) _ 2 c.args.is_exchanged first c.requires) c.wrap.ensures.elements)
