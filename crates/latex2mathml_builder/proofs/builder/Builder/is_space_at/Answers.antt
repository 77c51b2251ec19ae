use Rattle.std.proofs.Common.{◌≡◌, ◌+◌, ◌-◌, ◌∷◌, ◌≤◌, ◌∙◌, ap, arith, drop, length, subst, sym}
use Rattle.latex2mathml_builder.specs.Built.{element_in, elements_in, settled_in}
use Rattle.latex2mathml_builder.proofs.{Opens.no_space_there, Opens.space_there, Sound.elements_length, Tokens.space_part}
use Rattle.latex2mathml_builder.proofs.builder.Builder.is_space_at.Goals as goal

pub returns : goal.returns
returns c =
    let b = c.args.self.now in
    let depth = c.args.depth in
    let part = c.open_at.result.now in
    let stack = ap length c.as_slice-len.ensures.value ∙ ap (λ d. length d.stack) c.self.view_is in
    let at : length b.stack - (length c.as_slice-len.result.now - 1 - depth + 1) ≡ depth = omega (arith, stack, c.if-depth-len.false) in
    let there = subst (λ n. drop n (elements_in b) ≡ element_in b part ∷ drop (length b.stack - (length c.as_slice-len.result.now - 1 - depth)) (elements_in b)) at c.open_at.ensures.element in
    c.is_space.ensures ∙ sym (space_part b.texts (settled_in b) part) ∙ sym (space_there depth (elements_in b) _ (element_in b part) there)

pub returns-then-depth-len : goal.returns-then-depth-len
returns-then-depth-len c =
    let b = c.args.self.now in
    let stack = ap length c.as_slice-len.ensures.value ∙ ap (λ d. length d.stack) c.self.view_is in
    let few : length (elements_in b) ≤ c.args.depth = omega (arith, stack, c.if-depth-len.true, elements_length b.texts b.settled b.stack) in
    sym (no_space_there c.args.depth (elements_in b) few)
