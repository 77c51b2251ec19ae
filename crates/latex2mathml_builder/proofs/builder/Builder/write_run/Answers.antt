use Rattle.std.proofs.Common.{◌≡◌, ◌+◌, ◌-◌, ◌<◌, ◌∙◌, ◌∷◌, ◌++◌, ap, arith, drop, string_bytes, sym}
use Rattle.latex2mathml_elements.specs.Element.{children, token}
use Rattle.latex2mathml_elements.specs.Print.{print}
use Rattle.latex2mathml_attributes.specs.Names.{attributes_if_any, token_of}
use Rattle.latex2mathml_builder.specs.Built.{element_in, settled_in}
use Rattle.latex2mathml_builder.specs.Due.{due, elements_of, settled_from, weights}
use Rattle.latex2mathml_builder.proofs.Written.{first_taken, outer_of_run, token_of_run}
use Rattle.latex2mathml_builder.proofs.builder.Builder.write_run.Goals as goal

pub elements-preserved-in-Continue-1 : goal.elements-preserved-in-Continue-1
elements-preserved-in-Continue-1 c =
    let b = c.args.self.now in
    let left = c.elements.left in
    let found = c.in-Token in
    let count = left.end - left.next in
    let some : 0 < count = omega (arith, c.elements-test.true) in
    let fewer : count - 1 ≡ left.end - (left.next + 1) = omega arith in
    let x = element_in b c.settled_at-first.result.now in
    let is = first_taken count (drop left.next (settled_in b)) (drop (left.next + 1) (settled_in b)) x some c.settled_at-first.ensures.element ∙ ap (λ k. x ∷ settled_from b (left.next + 1) k) fewer in
    let out = string_bytes c.elements.out in
    let writes =
    c.in_ok-write_token-in-Token.ensures
    ∙ ap (λ text. out ++ print (token (token_of found.tag) (attributes_if_any found.attributes) text)) c.text_between.ensures
    ∙ ap (λ p. out ++ print (element_in b p)) (sym found.is) in
    record {
      one = c.elements.invariant.one;
      inside = c.elements.invariant.inside;
      print = token_of_run out (elements_of b left) _ x left.tag.now (due b c.elements.works.items) _ _ is writes c.elements.invariant.print;
      weight = omega (arith, ap (λ l. weights (children l)) is, c.elements.invariant.weight);
    }

pub elements-preserved : goal.elements-preserved
elements-preserved c =
    let b = c.args.self.now in
    let left = c.elements.left in
    let count = left.end - left.next in
    let some : 0 < count = omega (arith, c.elements-test.true) in
    let fewer : count - 1 ≡ left.end - (left.next + 1) = omega arith in
    let x = element_in b c.settled_at-first.result.now in
    let is = first_taken count (drop left.next (settled_in b)) (drop (left.next + 1) (settled_in b)) x some c.settled_at-first.ensures.element ∙ ap (λ k. x ∷ settled_from b (left.next + 1) k) fewer in
    let pushed = c.in_ok-push_work-in_default.ensures in
    let begun = c.in_ok-left-in_default.ensures in
    record {
      one = begun.one;
      inside = begun.inside;
      print = outer_of_run (string_bytes c.elements.out) (elements_of b left) _ x left.tag.now (due b c.elements.works.items) _ _ _ is pushed.print begun.print c.elements.invariant.print;
      weight = omega (arith, ap (λ l. weights (children l)) is, pushed.weight, begun.weight, c.elements.invariant.weight);
    }
