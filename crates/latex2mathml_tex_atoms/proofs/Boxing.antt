-- Elements in boxes.
use Rattle.std.proofs.Common.{◌≡◌, ◌∙◌, ◌≤◌, List, [], ◌∷◌, Option, None, Some, ap, arith, drop, length, refl, sym}
use Rattle.latex2mathml_elements.specs.Element.{Element}
use Rattle.latex2mathml_builder.specs.Stacks.{around_first}
use Rattle.latex2mathml_attributes.specs.{Arounds.element_around, declared.around.Around.Around}
use Rattle.latex2mathml_tex_atoms.specs.{Models.top, Shapes.within_any}

first_around : (a : Around) (xs : List Element) → 1 ≤ length xs → around_first a xs ≡ element_around a (top xs)
first_around a [] h = absurd (omega (arith, h))
first_around a (x ∷ xs) h = refl

pub in_one : (outer : Around) (inner : Option Around) (xs new : List Element) (whole : Element → Element) → 1 ≤ length xs → inner ≡ None → ((x : Element) → whole x ≡ element_around outer (within_any inner x)) → new ≡ around_first outer xs ∷ drop 1 xs → new ≡ whole (top xs) ∷ drop 1 xs
in_one outer inner xs new whole h e is put =
    put ∙ ap (λ x. x ∷ drop 1 xs) (first_around outer xs h ∙ sym (is (top xs) ∙ ap (λ i. element_around outer (within_any i (top xs))) e))

pub in_two : (outer a : Around) (inner : Option Around) (xs between new : List Element) (whole : Element → Element) → 1 ≤ length xs → inner ≡ Some a → ((x : Element) → whole x ≡ element_around outer (within_any inner x)) → between ≡ around_first a xs ∷ drop 1 xs → new ≡ around_first outer between ∷ drop 1 between → new ≡ whole (top xs) ∷ drop 1 xs
in_two outer a inner xs between new whole h e is first second =
    second
    ∙ ap (λ l. around_first outer l ∷ drop 1 l) first
    ∙ ap (λ x. element_around outer x ∷ drop 1 xs) (first_around a xs h)
    ∙ ap (λ x. x ∷ drop 1 xs) (sym (is (top xs) ∙ ap (λ i. element_around outer (within_any i (top xs))) e))
