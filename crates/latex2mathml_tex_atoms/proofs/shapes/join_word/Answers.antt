use Rattle.std.proofs.Common.{◌≡◌, ◌+◌, ◌∙◌, suc, ap, arith, drop, sym, take}
use Rattle.latex2mathml_builder.specs.Built.{elements_in}
use Rattle.latex2mathml_elements.specs.Attributes.{plain}
use Rattle.latex2mathml_tex_grammar.specs.Rows
use Rattle.latex2mathml_tex_atoms.specs.Models.{top}
use Rattle.latex2mathml_tex_atoms.proofs.Shaping.{not_joined, text_apart, text_begun, word_joined}
use Rattle.latex2mathml_tex_atoms.proofs.shapes.join_word.Goals as goal
use Rattle.latex2mathml_tex_atoms.proofs.shapes.join_word.Goals.{else-count-gt0-via-then-count-gt0+else-join, else-count-gt0-via-else-count-gt0}

pub returns-then-join-clause-elements : goal.returns-then-join-clause-elements
returns-then-join-clause-elements c =
    let xs = elements_in c.args.builder.now in
    ap (take c.args.count) c.join.ensures.elements
    ∙ word_joined c.args.count xs c.if-count-gt0.true (sym c.if-join.ensures.are_tokens)

pub returns-clause-elements : goal.returns-clause-elements
returns-clause-elements c =
    let xs = elements_in c.args.builder.now in
    let n = c.args.count in
    let next : n + 1 ≡ suc n = omega arith in
    elim c.else-count-gt0.branch [
      | else-count-gt0-via-then-count-gt0+else-join w ↦
          let apart = sym w.if-join.ensures.are_tokens in
          ap (λ b. take (n + 1) (elements_in b)) w.builder-is
          ∙ ap (take (n + 1)) (w.join.ensures.elements ∙ not_joined xs apart)
          ∙ ap (λ m. take m xs) next
          ∙ text_apart _ n xs (omega arith) apart
      | else-count-gt0-via-else-count-gt0 w ↦
          let none : n ≡ 0 = omega (arith, w.if-count-gt0.false) in
          ap (λ b. take (n + 1) (elements_in b)) w.builder-is
          ∙ ap (λ m. take (m + 1) xs) none
          ∙ text_begun _ xs (omega arith)
          ∙ ap (λ m. Rows.join (λ a. plain) (top xs) (take m (drop 1 xs))) (sym none)
    ]
