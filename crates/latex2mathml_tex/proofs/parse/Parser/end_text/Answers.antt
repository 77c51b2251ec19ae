use Rattle.std.proofs.Common.{◌≡◌, ◌∙◌, ◌∷◌, [], ◌<◌, ◌≤◌, length, ap, arith, drop, refl, subst, sym, take}
use Rattle.latex2mathml_tex_grammar.specs.Heights.{Low}
use Rattle.latex2mathml_tex_grammar.specs.Makes.{core}
use Rattle.latex2mathml_tex_grammar.specs.Atoms.{Plain, atom}
use Rattle.latex2mathml_tex_grammar.specs.Rows.{row_element}
use Rattle.latex2mathml_tex_grammar.specs.Symbols.{Ordinary}
use Rattle.latex2mathml_tex_grammar.specs.Words.{text_atom}
use Rattle.latex2mathml_elements.specs.{Attributes.plain, Element.Mtext, Element.token}
use Rattle.latex2mathml_builder.specs.Built.{elements_in}
use Rattle.latex2mathml_tex_atoms.specs.Models.{core_with}
use Rattle.latex2mathml_tex.specs.Steps.{Holds, elements_of}
use Rattle.latex2mathml_tex.specs.declared.parse.State.TheVariants as state
use Rattle.latex2mathml_tex.proofs.Wording.{core_of_words, core_of_words_step, words_made_of}
use Rattle.latex2mathml_tex.proofs.parse.Parser.end_text.Goals as goal
use Rattle.latex2mathml_tex.proofs.parse.Parser.end_text.Goals.{then-count-eq0+in_ok-token, else-count-eq0+in_ok-put_row}

pub returns-clause-holds : goal.returns-clause-holds
returns-clause-holds c = λ s g.
    let p = c.args.self.now in
    let n = c.args.count in
    let xs = elements_of p in
    let k = core (text_atom (take n xs)) in
    elim c.if-count-eq0.branch [
      | then-count-eq0+in_ok-token w ↦ (
          let none : n ≡ 0 = omega (arith, w.if-count-eq0.true) in
          let x = token Mtext plain [] in
          let put : elements_in w.token.new.self ≡ x ∷ drop n xs = rw none (w.in_ok-token.ensures.elements ∙ ap (λ a. token Mtext a [] ∷ xs) w.plain.ensures) in
          let same : core_with c.new.result x ≡ k = rw (c.new.ensures, none) refl in
          subst (λ q. Holds s q (state.Core c.new.result)) (sym w.self-is) (core_of_words s p w.token.new.self n c.new.result x k put same g))
      | else-count-eq0+in_ok-put_row w ↦ (
          let some : 0 < n = omega (arith, w.if-count-eq0.false) in
          let enough : n ≤ length xs = omega (arith, c.requires.elements) in
          let x = row_element (take n xs) in
          let same : core_with c.new.result x ≡ k = rw c.new.ensures (ap (λ y. core (atom (Plain Ordinary) Low y)) (words_made_of n xs some enough)) in
          subst (λ q. Holds s q (state.Core c.new.result)) (sym w.self-is) (core_of_words s p w.put_row.new.builder n c.new.result x k w.in_ok-put_row.ensures same g))
    ]

pub returns-clause-step : goal.returns-clause-step
returns-clause-step c =
    let p = c.args.self.now in
    let n = c.args.count in
    let xs = elements_of p in
    elim c.if-count-eq0.branch [
      | then-count-eq0+in_ok-token w ↦ (
          let none : n ≡ 0 = omega (arith, w.if-count-eq0.true) in
          let x = token Mtext plain [] in
          let put : elements_in w.token.new.self ≡ x ∷ drop n xs = rw none (w.in_ok-token.ensures.elements ∙ ap (λ a. token Mtext a [] ∷ xs) w.plain.ensures) in
          rw w.self-is (core_of_words_step p w.token.new.self n c.new.result x put c.requires))
      | else-count-eq0+in_ok-put_row w ↦ rw w.self-is (core_of_words_step p w.put_row.new.builder n c.new.result (row_element (take n xs)) w.in_ok-put_row.ensures c.requires)
    ]
