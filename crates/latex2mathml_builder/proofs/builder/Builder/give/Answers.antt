use Rattle.std.proofs.Common.{◌≡◌, ◌-◌, ◌<◌, ◌≤◌, ◌∙◌, ap, arith, length, string_bytes, subst, sym}
use Rattle.std.proofs.Math.ListN.{get_or, set}
use Rattle.latex2mathml_elements.specs.Element.{token}
use Rattle.latex2mathml_builder.specs.{Built.between, Built.elements_in, Stacks.given}
use Rattle.latex2mathml_attributes.specs.Names.{attributes_of, token_of}
use Rattle.latex2mathml_builder.specs.declared.part.Part.TheVariants as part
use Rattle.latex2mathml_builder.proofs.Opens.{none_given}
use Rattle.latex2mathml_builder.proofs.Sound.{elements, elements_given, elements_length, elements_same, sound_replaced}
use Rattle.latex2mathml_builder.proofs.{Parts.same_before, Parts.same_behind, Tokens.has_none}
use Rattle.latex2mathml_builder.proofs.builder.Builder.give.Goals as goal

pub returns-then-depth-len : goal.returns-then-depth-len
returns-then-depth-len c =
    let texts = string_bytes c.self.inside.texts in
    let settled = c.self.inside.settled.items in
    let stack = c.self.inside.stack.items in
    let few : length (elements texts settled stack) ≤ c.args.depth = omega (arith, elements_length texts settled stack, ap length c.as_slice-len.ensures.value, c.if-depth-len.true) in
    record { elements = subst (λ b. elements_in b ≡ given c.args.depth (attributes_of c.args.attributes) (elements_in b)) c.self.view_is (sym (none_given c.args.depth (attributes_of c.args.attributes) _ few)) }

pub returns-in_default : goal.returns-in_default
returns-in_default c =
    let texts = string_bytes c.self.inside.texts in
    let settled = c.self.inside.settled.items in
    let stack = c.self.inside.stack.items in
    let p = c.index.result.now in
    let within : c.args.depth < length stack = omega (arith, ap length c.as_slice-len.ensures.value, c.if-depth-len.false) in
    let is = sym (c.index.ensures ∙ ap (λ l. get_or stack (length l - 1 - c.args.depth) p) c.as_slice-len.ensures.value) in
    let a = attributes_of c.args.attributes in
    record {
      elements = subst (λ b. elements_in b ≡ given c.args.depth a (elements_in b)) c.self.view_is (elements_same texts settled stack c.args.depth p within is a ((has_none texts settled p c.in_default.not-Token).1 a));
    }

pub invariant_of-self : goal.invariant_of-self
invariant_of-self c =
    let texts = string_bytes c.self.inside.texts in
    let settled = c.self.inside.settled.items in
    let stack = c.self.inside.stack.items in
    let found = c.in-Token in
    let old = part.Token found.tag found.field-1 found.start found.end in
    let new = part.Token found.tag c.if_any.result found.start found.end in
    let within : c.args.depth < length stack = omega (arith, ap length c.as_slice-len.ensures.value, c.if-depth-len.false) in
    let is = subst (λ p. get_or stack (length stack - 1 - c.args.depth) p ≡ p) found.is (sym (c.index.ensures ∙ ap (λ l. get_or stack (length l - 1 - c.args.depth) c.index.result.now) c.as_slice-len.ensures.value)) in
    rw c.as_slice-len.ensures.value (sound_replaced texts settled stack c.args.depth old within is new c.self.invariant (λ f. f) (same_before found.tag found.tag found.field-1 c.if_any.result found.start found.end found.end) (same_behind _ found.tag found.tag found.field-1 c.if_any.result found.start found.start found.end))

pub returns : goal.returns
returns c =
    let texts = string_bytes c.self.inside.texts in
    let settled = c.self.inside.settled.items in
    let stack = c.self.inside.stack.items in
    let found = c.in-Token in
    let old = part.Token found.tag found.field-1 found.start found.end in
    let new = part.Token found.tag c.if_any.result found.start found.end in
    let within : c.args.depth < length stack = omega (arith, ap length c.as_slice-len.ensures.value, c.if-depth-len.false) in
    let is = subst (λ p. get_or stack (length stack - 1 - c.args.depth) p ≡ p) found.is (sym (c.index.ensures ∙ ap (λ l. get_or stack (length l - 1 - c.args.depth) c.index.result.now) c.as_slice-len.ensures.value)) in
    record {
      elements =
          ap (λ l. elements texts settled (set stack (length l - 1 - c.args.depth) new)) c.as_slice-len.ensures.value
          ∙ elements_given texts settled stack c.args.depth old within is new (attributes_of c.args.attributes) (ap (λ a. token (token_of found.tag) a (between found.start found.end texts)) c.if_any.ensures)
          ∙ ap (λ b. given c.args.depth (attributes_of c.args.attributes) (elements_in b)) c.self.view_is;
    }
