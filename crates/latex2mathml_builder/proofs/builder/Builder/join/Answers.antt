use Rattle.std.proofs.Common.{◌≡◌, ◌-◌, ◌<◌, ◌≤◌, ◌∙◌, None, ap, arith, length, refl, string_bytes, subst, sym, take}
use Rattle.std.proofs.Math.ListN.{get_or, set}
use Rattle.latex2mathml_builder.specs.{Built.elements_in, Stacks.are_tokens, Stacks.joined}
use Rattle.latex2mathml_builder.specs.declared.part.Part.TheVariants as part
use Rattle.latex2mathml_builder.proofs.Joined.{Same, are_joined, elements_joined, none_joined, none_joined_below, sound_joined}
use Rattle.latex2mathml_builder.proofs.{Opens.none_at, Sound.elements, Sound.elements_length, Sound.found_at, Tokens.has_none}
use Rattle.latex2mathml_builder.proofs.builder.Builder.join.Goals as goal

pub invariant_of-self : goal.invariant_of-self
invariant_of-self c =
    let stack = c.self.inside.stack.items in
    let upper = c.in-Token in
    let lower = c.in-Token-index in
    let same = c.as_slice-len.ensures.value in
    let enough : 2 ≤ length stack = omega (arith, ap length same, c.if-len-lt2.false) in
    let up = subst (λ p. get_or stack (length stack - 1) p ≡ p) upper.is (sym (c.index.ensures ∙ ap (λ l. get_or stack (length l - 1) c.index.result.now) same)) in
    let low = subst (λ p. get_or stack (length stack - 2) p ≡ p) lower.is (sym (c.index-2.ensures ∙ ap (λ l. get_or stack (length l - 2) c.index-2.result.now) same)) in
    rw (c.truncate.ensures.items, same)
    (sound_joined _ _ stack lower.tag upper.field-0 lower.field-1 upper.field-1 None lower.start lower.field-3 upper.field-2 upper.end c.self.invariant enough up low)

pub returns-clause-elements : goal.returns-clause-elements
returns-clause-elements c =
    let texts = string_bytes c.self.inside.texts in
    let settled = c.self.inside.settled.items in
    let stack = c.self.inside.stack.items in
    let upper = c.in-Token in
    let lower = c.in-Token-index in
    let same = c.as_slice-len.ensures.value in
    let z = part.Token lower.tag None lower.start upper.end in
    let enough : 2 ≤ length stack = omega (arith, ap length same, c.if-len-lt2.false) in
    let up = subst (λ p. get_or stack (length stack - 1) p ≡ p) upper.is (sym (c.index.ensures ∙ ap (λ l. get_or stack (length l - 1) c.index.result.now) same)) in
    let low = subst (λ p. get_or stack (length stack - 2) p ≡ p) lower.is (sym (c.index-2.ensures ∙ ap (λ l. get_or stack (length l - 2) c.index-2.result.now) same)) in
    ap (elements texts settled) c.truncate.ensures.items
    ∙ ap (λ l. elements texts settled (take (length l - 1) (set stack (length l - 2) z))) same
    ∙ elements_joined texts settled stack lower.tag upper.field-0 lower.field-1 upper.field-1 None lower.start lower.field-3 upper.field-2 upper.end c.self.invariant enough up low refl
    ∙ ap (λ b. joined (elements_in b)) c.self.view_is

pub returns-clause-are_tokens : goal.returns-clause-are_tokens
returns-clause-are_tokens c =
    let stack = c.self.inside.stack.items in
    let upper = c.in-Token in
    let lower = c.in-Token-index in
    let same = c.as_slice-len.ensures.value in
    let enough : 2 ≤ length stack = omega (arith, ap length same, c.if-len-lt2.false) in
    let up = subst (λ p. get_or stack (length stack - 1) p ≡ p) upper.is (sym (c.index.ensures ∙ ap (λ l. get_or stack (length l - 1) c.index.result.now) same)) in
    let low = subst (λ p. get_or stack (length stack - 2) p ≡ p) lower.is (sym (c.index-2.ensures ∙ ap (λ l. get_or stack (length l - 2) c.index-2.result.now) same)) in
    sym (are_joined (string_bytes c.self.inside.texts) c.self.inside.settled.items stack lower.tag upper.field-0 lower.field-1 upper.field-1 None lower.start lower.field-3 upper.field-2 upper.end c.self.invariant enough up low)
    ∙ ap (λ b. are_tokens (elements_in b)) c.self.view_is

pub returns-then-len-lt2-clause-elements : goal.returns-then-len-lt2-clause-elements
returns-then-len-lt2-clause-elements c =
    let xs = elements (string_bytes c.self.inside.texts) c.self.inside.settled.items c.self.inside.stack.items in
    let few : length xs ≤ 1 = omega (arith, elements_length (string_bytes c.self.inside.texts) c.self.inside.settled.items c.self.inside.stack.items, ap length c.as_slice-len.ensures.value, c.if-len-lt2.true) in
    sym (subst (λ b. Same (elements_in b)) c.self.view_is (none_joined_below xs (none_at 1 xs few))).0

pub returns-then-len-lt2-clause-are_tokens : goal.returns-then-len-lt2-clause-are_tokens
returns-then-len-lt2-clause-are_tokens c =
    let xs = elements (string_bytes c.self.inside.texts) c.self.inside.settled.items c.self.inside.stack.items in
    let few : length xs ≤ 1 = omega (arith, elements_length (string_bytes c.self.inside.texts) c.self.inside.settled.items c.self.inside.stack.items, ap length c.as_slice-len.ensures.value, c.if-len-lt2.true) in
    sym (subst (λ b. Same (elements_in b)) c.self.view_is (none_joined_below xs (none_at 1 xs few))).1

pub returns-in_default : goal.returns-in_default
returns-in_default c =
    let texts = string_bytes c.self.inside.texts in
    let settled = c.self.inside.settled.items in
    let stack = c.self.inside.stack.items in
    let p = c.index.result.now in
    let same = c.as_slice-len.ensures.value in
    let within : 0 < length stack = omega (arith, ap length same, c.if-len-lt2.false) in
    let place : length stack - 1 ≡ length stack - 1 - 0 = omega arith in
    let is = sym (c.index.ensures ∙ ap (λ l. get_or stack (length l - 1) p) same ∙ ap (λ n. get_or stack n p) place) in
    let none = found_at texts settled stack 0 p within is ∙ (has_none texts settled p c.in_default.not-Token).0 in
    let kept = subst (λ b. Same (elements_in b)) c.self.view_is (none_joined (elements texts settled stack) none) in
    record { elements = sym kept.0; are_tokens = sym kept.1 }

pub returns-in_default-index : goal.returns-in_default-index
returns-in_default-index c =
    let texts = string_bytes c.self.inside.texts in
    let settled = c.self.inside.settled.items in
    let stack = c.self.inside.stack.items in
    let p = c.index-2.result.now in
    let same = c.as_slice-len.ensures.value in
    let within : 1 < length stack = omega (arith, ap length same, c.if-len-lt2.false) in
    let place : length stack - 2 ≡ length stack - 1 - 1 = omega arith in
    let is = sym (c.index-2.ensures ∙ ap (λ l. get_or stack (length l - 2) p) same ∙ ap (λ n. get_or stack n p) place) in
    let none = found_at texts settled stack 1 p within is ∙ (has_none texts settled p c.in_default-index.not-Token).0 in
    let kept = subst (λ b. Same (elements_in b)) c.self.view_is (none_joined_below (elements texts settled stack) none) in
    record { elements = sym kept.0; are_tokens = sym kept.1 }
