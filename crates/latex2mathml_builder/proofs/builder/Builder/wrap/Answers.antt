use Rattle.std.proofs.Common.{◌-◌, ◌+◌, ◌≤◌, ◌∙◌, ◌++◌, ◌∷◌, ap, arith, drop, length, reverse, string_bytes, subst, sym, take}
use Rattle.latex2mathml_builder.specs.Built.{Fits, element_of, elements_in, settled_in}
use Rattle.latex2mathml_builder.specs.Stacks.{ordered}
use Rattle.latex2mathml_builder.proofs.Sound.{block_taken, elements, elements_length, elements_wrapped, kept_with, sound_wrapped}
use Rattle.latex2mathml_builder.proofs.builder.Builder.wrap.Goals as goal

pub invariant_of-self-2 : goal.invariant_of-self-2
invariant_of-self-2 c =
    let count = c.args.count in
    let stack = c.self.inside.stack.items in
    let settled = c.self.inside.settled.items in
    let texts = string_bytes c.self.inside.texts in
    let all = subst (λ b. count ≤ length (elements_in b)) (sym c.self.view_is) c.requires.all in
    let enough : count ≤ length stack = omega (arith, all, elements_length texts settled stack) in
    let fits = subst (λ b. Fits b.texts (length b.settled + count) c.args.whole) (sym c.self.view_is) c.requires.fits in
    let block = block_taken stack _ _ count c.as_slice.ensures.value c.deref.ensures.value in
    rw (c.in_ok-settle.ensures.items, c.truncate.ensures.items, block, kept_with stack _ count c.args.whole c.as_slice.ensures.value c.requires.some enough)
    (sound_wrapped texts settled stack count c.args.is_exchanged c.args.whole c.self.invariant enough fits c.requires.no_token)

pub returns-clause-elements : goal.returns-clause-elements
returns-clause-elements c =
    let count = c.args.count in
    let stack = c.self.inside.stack.items in
    let settled = c.self.inside.settled.items in
    let texts = string_bytes c.self.inside.texts in
    let all = subst (λ b. count ≤ length (elements_in b)) (sym c.self.view_is) c.requires.all in
    let enough : count ≤ length stack = omega (arith, all, elements_length texts settled stack) in
    let block = c.in_ok-settle.ensures.items ∙ ap (λ l. settled ++ ordered c.args.is_exchanged l) (block_taken stack _ _ count c.as_slice.ensures.value c.deref.ensures.value) in
    let kept = c.truncate.ensures.items ∙ kept_with stack _ count c.args.whole c.as_slice.ensures.value c.requires.some enough in
    ap (λ l. elements texts l c.truncate.new.self.items) block
    ∙ ap (elements texts (settled ++ ordered c.args.is_exchanged (drop (length stack - count) stack))) kept
    ∙ elements_wrapped texts settled stack count c.args.is_exchanged c.args.whole c.self.invariant enough
    ∙ ap (λ b. element_of b.texts (settled_in b ++ ordered c.args.is_exchanged (reverse (take count (elements_in b)))) c.args.whole ∷ drop count (elements_in b)) c.self.view_is
