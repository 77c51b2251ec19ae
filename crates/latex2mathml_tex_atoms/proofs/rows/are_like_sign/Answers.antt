use Rattle.std.proofs.Common.{◌≡◌, ◌+◌, ◌∙◌, ◌∷◌, suc, true, false, ap, arith, drop, sym, take}
use Rattle.latex2mathml_elements.specs.Element.{is_space_like}
use Rattle.latex2mathml_builder.specs.Built.{elements_in}
use Rattle.latex2mathml_tex_grammar.specs.Rows.{is_spaced_sign}
use Rattle.latex2mathml_tex_atoms.proofs.LikeSigns.{at, first_sign, like_sign_after, no_space, second_sign, space_passed}
use Rattle.latex2mathml_tex_atoms.proofs.rows.are_like_sign.Goals as goal
use Rattle.latex2mathml_tex_atoms.proofs.rows.are_like_sign.Goals.{then-is_spaced_sign+else-has_sign, else-is_spaced_sign+else-not-is_space_at}

pub returns-then-has_sign : goal.returns-then-has_sign
returns-then-has_sign c =
    let xs = elements_in c.args.builder.now in
    let a = at c.elements.depth c.args.count xs (omega (arith, c.elements-test.true)) c.requires in
    let sign : is_spaced_sign a.element ≡ true = sym a.sign ∙ sym c.is_spaced_sign.ensures ∙ c.if-is_spaced_sign.true in
    sym (second_sign a.element a.others sign)
    ∙ ap (like_sign_after true) (sym a.here)
    ∙ ap (λ b. like_sign_after b (drop c.elements.depth (take c.args.count xs))) (sym c.if-has_sign.true)
    ∙ c.elements.invariant

pub returns-then-not-is_space_at : goal.returns-then-not-is_space_at
returns-then-not-is_space_at c =
    let xs = elements_in c.args.builder.now in
    let a = at c.elements.depth c.args.count xs (omega (arith, c.elements-test.true)) c.requires in
    let no_sign : is_spaced_sign a.element ≡ false = sym a.sign ∙ sym c.is_spaced_sign.ensures ∙ c.if-is_spaced_sign.false in
    let other : is_space_like a.element ≡ false = sym a.space ∙ sym c.is_space_at.ensures ∙ c.if-not-is_space_at.true in
    sym (no_space c.elements.has_sign a.element a.others no_sign other)
    ∙ ap (like_sign_after c.elements.has_sign) (sym a.here)
    ∙ c.elements.invariant

pub elements-preserved : goal.elements-preserved
elements-preserved c =
    let xs = elements_in c.args.builder.now in
    let a = at c.elements.depth c.args.count xs (omega (arith, c.elements-test.true)) c.requires in
    let here = ap (like_sign_after c.elements.has_sign) (sym a.here) ∙ c.elements.invariant in
    let next : c.elements.depth + 1 ≡ suc c.elements.depth = omega arith in
    ap (λ n. like_sign_after c.if-is_spaced_sign.has_sign (drop n (take c.args.count xs))) next
    ∙ ap (like_sign_after c.if-is_spaced_sign.has_sign) a.behind
    ∙ elim c.if-is_spaced_sign.branch [
      | then-is_spaced_sign+else-has_sign w ↦ (
          let sign : is_spaced_sign a.element ≡ true = sym a.sign ∙ sym c.is_spaced_sign.ensures ∙ w.if-is_spaced_sign.true in
          ap (λ b. like_sign_after b a.others) w.has_sign-is
          ∙ sym (first_sign a.element a.others sign)
          ∙ ap (λ b. like_sign_after b (a.element ∷ a.others)) (sym w.if-has_sign.false)
          ∙ here)
      | else-is_spaced_sign+else-not-is_space_at w ↦ (
          let no_sign : is_spaced_sign a.element ≡ false = sym a.sign ∙ sym c.is_spaced_sign.ensures ∙ w.if-is_spaced_sign.false in
          let blank : is_space_like a.element ≡ true = sym a.space ∙ sym w.is_space_at.ensures ∙ w.if-not-is_space_at.false in
          ap (λ b. like_sign_after b a.others) w.has_sign-is
          ∙ sym (space_passed c.elements.has_sign a.element a.others no_sign blank)
          ∙ here)
    ]
