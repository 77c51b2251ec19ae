use Rattle.std.proofs.Common.{◌≡◌, ◌∷◌, ◌∙◌, List, [], ap, drop, length, false, refl, reverse, take}
use Rattle.std.proofs.lemmas.Result.{on_ok_weaker}
use Rattle.latex2mathml_elements.specs.Element.{Element}
use Rattle.latex2mathml_builder.specs.{Stacks.around_first, Built.elements_in}
use Rattle.latex2mathml_attributes.specs.declared.around.Around.{Around}
use Rattle.latex2mathml_builder.proofs.Sound.{children_back}
use Rattle.latex2mathml_builder.proofs.builder.Builder.surround.Goals as goal

first_alone : (a : Around) (xs : List Element) → around_first a (reverse (take 1 xs)) ≡ around_first a xs
first_alone a [] = refl
first_alone a (x ∷ xs) = refl

pub returns-clause-elements : goal.returns-clause-elements
returns-clause-elements c =
    let b = c.args.self.now in
    let first = ap length c.as_slice-first.ensures.value ∙ ap (λ d. length d.settled) c.self.view_is in
    on_ok_weaker c.wrap.result
    (λ h. h ∙ ap (λ l. around_first c.args.around l ∷ drop 1 (elements_in b)) (children_back b.texts b.settled (elements_in b) _ 1 false first c.requires) ∙ ap (λ x. x ∷ drop 1 (elements_in b)) (first_alone c.args.around (elements_in b)))
    c.wrap.ensures.elements
