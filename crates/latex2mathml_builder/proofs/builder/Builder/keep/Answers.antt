use Rattle.std.proofs.Common.{◌≡◌, ◌+◌, ◌-◌, ◌∷◌, ◌∙◌, ap, arith, drop, length, subst}
use Rattle.std.proofs.lemmas.Result.{on_ok_weaker}
use Rattle.latex2mathml_builder.specs.Built.{element_in, elements_in}
use Rattle.latex2mathml_builder.proofs.{Keeping.Keeps, Keeping.no_token_part, Keeping.other_kept, Keeping.token_kept, Sound.elements_length}
use Rattle.latex2mathml_builder.proofs.builder.Builder.keep.Goals as goal
use Rattle.latex2mathml_builder.proofs.builder.Builder.keep.Goals.{in-Token, in_default}

pub returns-clause-elements : goal.returns-clause-elements
returns-clause-elements c =
    let b = c.args.self.now in
    let depth = c.args.depth in
    let count = c.args.count in
    let kept = c.open_at-kept.result.now in
    let settled = ap length c.as_slice.ensures.value ∙ ap (λ d. length d.settled) c.self.view_is in
    let stack = ap length c.as_slice-2.ensures.value ∙ ap (λ d. length d.stack) c.self.view_is in
    let at : length b.stack - (length c.as_slice-2.result.now - 1 - depth + 1) ≡ depth = omega (arith, stack, c.requires.one, c.requires.all, elements_length b.texts b.settled b.stack) in
    let there = subst (λ n. drop n (elements_in b) ≡ element_in b kept ∷ drop (length b.stack - (length c.as_slice-2.result.now - 1 - depth)) (elements_in b)) at c.open_at-kept.ensures.element in
    let place : length c.as_slice.result.now + (count - 1 - depth) ≡ length b.settled + (count - 1 - depth) = ap (λ n. n + (count - 1 - depth)) settled in
    let is : Keeps b depth count c.match-kept.whole = elim c.match-kept.branch [
      | in-Token w ↦ rw w.whole-is (token_kept b depth count kept _ c.requires.one c.requires.all there w.in-Token.field-0 w.in-Token.field-1 w.in-Token.field-2 w.in-Token.field-3 _ w.in-Token.is place)
      | in_default w ↦ rw w.whole-is (other_kept b depth count kept _ c.requires.one c.requires.all there (no_token_part kept w.in_default.not-Token) c.open_at-kept.ensures.fits)
    ] in
    on_ok_weaker c.wrap.result (λ h. h ∙ ap (λ x. x ∷ drop count (elements_in b)) is) c.wrap.ensures.elements
