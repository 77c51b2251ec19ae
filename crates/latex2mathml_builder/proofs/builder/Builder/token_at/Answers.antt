use Rattle.std.proofs.Common.{Some, ◌-◌, ◌<◌, ◌≤◌, ◌∙◌, ap, arith, length, string_bytes, sym}
use Rattle.std.proofs.Math.ListN.{get_or}
use Rattle.latex2mathml_builder.specs.{Built.elements_in, Stacks.token_at, Stacks.token_of_element}
use Rattle.latex2mathml_attributes.specs.Names.{attributes_of, token_of}
use Rattle.latex2mathml_builder.proofs.{Opens.none_at, Sound.element, Sound.elements, Sound.elements_length, Sound.found_at, Tokens.has_none, Tokens.some_attributes}
use Rattle.latex2mathml_builder.proofs.builder.Builder.token_at.Goals as goal

pub returns-then-depth-len : goal.returns-then-depth-len
returns-then-depth-len c =
    let texts = string_bytes c.self.inside.texts in
    let settled = c.self.inside.settled.items in
    let stack = c.self.inside.stack.items in
    let few : length (elements texts settled stack) ≤ c.args.depth = omega (arith, elements_length texts settled stack, ap length c.as_slice-len.ensures.value, c.if-depth-len.true) in
    sym (ap (λ b. token_at c.args.depth (elements_in b)) c.self.view_is) ∙ none_at c.args.depth _ few

pub returns-in-Token : goal.returns-in-Token
returns-in-Token c =
    let texts = string_bytes c.self.inside.texts in
    let settled = c.self.inside.settled.items in
    let stack = c.self.inside.stack.items in
    let p = c.index.result.now in
    let within : c.args.depth < length stack = omega (arith, ap length c.as_slice-len.ensures.value, c.if-depth-len.false) in
    let is = sym (c.index.ensures ∙ ap (λ l. get_or stack (length l - 1 - c.args.depth) p) c.as_slice-len.ensures.value) in
    sym (ap (λ b. token_at c.args.depth (elements_in b)) c.self.view_is)
    ∙ found_at texts settled stack c.args.depth p within is
    ∙ ap (λ q. token_of_element (element texts settled q)) c.in-Token.is
    ∙ ap (λ a. Some (token_of c.in-Token.tag, a)) (some_attributes c.in-Token.attributes _ c.plain.ensures ∙ ap attributes_of (sym c.unwrap_or.ensures))

pub returns-in_default : goal.returns-in_default
returns-in_default c =
    let texts = string_bytes c.self.inside.texts in
    let settled = c.self.inside.settled.items in
    let stack = c.self.inside.stack.items in
    let p = c.index.result.now in
    let within : c.args.depth < length stack = omega (arith, ap length c.as_slice-len.ensures.value, c.if-depth-len.false) in
    let is = sym (c.index.ensures ∙ ap (λ l. get_or stack (length l - 1 - c.args.depth) p) c.as_slice-len.ensures.value) in
    sym (ap (λ b. token_at c.args.depth (elements_in b)) c.self.view_is)
    ∙ found_at texts settled stack c.args.depth p within is
    ∙ (has_none texts settled p c.in_default.not-Token).0
