use Rattle.std.proofs.Common.{◌≡◌, ◌-◌, ◌<◌, ◌∙◌, ◌++◌, ◌∷◌, ℤ, [], ap, arith, drop, length, string_bytes, subst, sym, take, to_z, of_z, w32}
use Rattle.std.proofs.Math.{ListN.get_or, ListN.set}
use Rattle.std.proofs.lemmas.Int.{ints}
use Rattle.latex2mathml_elements.specs.Element.{space}
use Rattle.latex2mathml_builder.specs.Built.{elements_in}
use Rattle.latex2mathml_builder.specs.declared.part.Part.TheVariants as part
use Rattle.latex2mathml_builder.proofs.{Below.elements_space_below, Below.sound_space_below, Sound.elements, Sound.elements_length}
use Rattle.latex2mathml_builder.proofs.builder.Builder.space_below.Goals as goal

pub invariant_of-self-2 : goal.invariant_of-self-2
invariant_of-self-2 c =
    let stack = c.self.inside.stack.items in
    let p = c.index.result.now in
    let all = subst (λ b. 0 < length (elements_in b)) (sym c.self.view_is) c.requires in
    let some : 0 < length stack = omega (arith, all, elements_length (string_bytes c.self.inside.texts) c.self.inside.settled.items stack) in
    let is = c.index.ensures ∙ ap (λ l. get_or stack (length l - 1) p) c.as_slice.ensures.value in
    rw (c.in_ok-push.ensures.items, c.as_slice.ensures.value) (sound_space_below _ _ stack p _ some is c.self.invariant)

pub returns-clause-elements : goal.returns-clause-elements
returns-clause-elements c =
    let texts = string_bytes c.self.inside.texts in
    let settled = c.self.inside.settled.items in
    let stack = c.self.inside.stack.items in
    let p = c.index.result.now in
    let all = subst (λ b. 0 < length (elements_in b)) (sym c.self.view_is) c.requires in
    let some : 0 < length stack = omega (arith, all, elements_length texts settled stack) in
    let is = c.index.ensures ∙ ap (λ l. get_or stack (length l - 1) p) c.as_slice.ensures.value in
    let same : to_z w32 (of_z w32 c.args.width) ≡ c.args.width = omega (arith, ints) in
    let wide : ℤ = to_z w32 (of_z w32 c.args.width) in
    ap (λ l. elements texts settled (set l (length c.as_slice.result.now - 1) (part.Space wide))) c.in_ok-push.ensures.items
    ∙ ap (λ l. elements texts settled (set (stack ++ p ∷ []) (length l - 1) (part.Space wide))) c.as_slice.ensures.value
    ∙ elements_space_below texts settled stack p wide some is
    ∙ ap (λ b. take 1 (elements_in b) ++ (space wide ∷ drop 1 (elements_in b))) c.self.view_is
    ∙ ap (λ n. take 1 (elements_in c.args.self.now) ++ (space n ∷ drop 1 (elements_in c.args.self.now))) same
