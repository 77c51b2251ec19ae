use Rattle.std.proofs.Common.{◌∙◌, ◌+◌, length, ap, arith, refl, subst, sym}
use Rattle.latex2mathml_builder.specs.Built.{elements_in}
use Rattle.latex2mathml_tex_commands.specs.Delimiters.{delimiter_text}
use Rattle.latex2mathml_tex_atoms.specs.Models.{height_of}
use Rattle.latex2mathml_tex.specs.Steps.{Follows, Holds, elements_of, to_do}
use Rattle.latex2mathml_tex.specs.declared.parse.State.TheVariants as state
use Rattle.latex2mathml_tex.proofs.Endings.{Lowered, all_lowered, enclosed, enclosed_step, lowest, none_lowered, not_closed, refused_step}
use Rattle.latex2mathml_tex.proofs.parse.Parser.close_delimiters.Goals as goal
use Rattle.latex2mathml_tex.proofs.parse.Parser.close_delimiters.Goals.{then-is_low, else-is_low}

pub returns-in_default-clause-holds : goal.returns-in_default-clause-holds
returns-in_default-clause-holds c = λ s g.
    let p = c.args.self.now in
    rw c.refuse_delimiter.ensures.state (not_closed s p c.args.opening c.args.row c.refuse_delimiter.new.self c.in_default.ensures.next.0 (rw c.refuse_delimiter.ensures.parser refl) (c.refuse_delimiter.ensures.refusal ∙ (rw c.in_default.ensures.next.1 refl)) g)

pub returns-in_default-clause-step : goal.returns-in_default-clause-step
returns-in_default-clause-step c =
    let p = c.args.self.now in
    rw c.refuse_delimiter.ensures.state (refused_step p c.refuse_delimiter.new.self c.args.row.count c.requires (rw c.refuse_delimiter.ensures.parser refl) (rw c.refuse_delimiter.ensures.parser refl) (c.refuse_delimiter.ensures.units ∙ (rw c.in_default.ensures.next.1 refl)))

pub put_row-requires : goal.put_row-requires
put_row-requires c =
    let xs = elements_of c.args.self.now in
    let low : Lowered (height_of c.args.row.height) c.args.row.count xs (elements_in c.if-is_low.self.builder) = elim c.if-is_low.branch [
      | then-is_low w ↦ (let low = lowest (height_of c.args.row.height) (sym c.is_low.ensures ∙ w.if-is_low.true) in rw w.self-is (all_lowered (height_of c.args.row.height) c.args.row.count xs (elements_in w.lower_dividers.new.builder) low w.lower_dividers.ensures))
      | else-is_low w ↦ (let tall = sym c.is_low.ensures ∙ w.if-is_low.false in rw w.self-is (none_lowered (height_of c.args.row.height) c.args.row.count xs tall))
    ] in
    omega (arith, low.count, c.requires.elements)

pub returns-clause-holds : goal.returns-clause-holds
returns-clause-holds c = λ s g.
    let p = c.args.self.now in
    let xs = elements_of p in
    elim c.if-is_low.branch [
      | then-is_low w ↦ (
          let lowest = lowest (height_of c.args.row.height) (sym c.is_low.ensures ∙ w.if-is_low.true) in
          let ys = elements_in w.lower_dividers.new.builder in
          let low = all_lowered (height_of c.args.row.height) c.args.row.count xs ys lowest w.lower_dividers.ensures in
          let put = c.in_ok-put_row.ensures ∙ rw w.self-is refl in
          subst (λ q. Holds s (record q { builder = c.enclose.new.builder }) (state.Core c.new.result)) (sym w.self-is)
          (enclosed s p c.args.opening c.args.row c.take_delimiter.new.self c.enclose.new.builder c.new.result (delimiter_text c.in-Some.closing) ys (elements_in c.put_row.new.builder) c.in-Some.ensures.next low put c.in_ok-enclose.ensures (λ x. rw c.new.ensures refl) g))
      | else-is_low w ↦ (
          let tall = sym c.is_low.ensures ∙ w.if-is_low.false in
          let low = none_lowered (height_of c.args.row.height) c.args.row.count xs tall in
          let put = c.in_ok-put_row.ensures ∙ rw w.self-is refl in
          subst (λ q. Holds s (record q { builder = c.enclose.new.builder }) (state.Core c.new.result)) (sym w.self-is)
          (enclosed s p c.args.opening c.args.row c.take_delimiter.new.self c.enclose.new.builder c.new.result (delimiter_text c.in-Some.closing) xs (elements_in c.put_row.new.builder) c.in-Some.ensures.next low put c.in_ok-enclose.ensures (λ x. rw c.new.ensures refl) g))
    ]

pub returns-clause-step : goal.returns-clause-step
returns-clause-step c =
    let p = c.args.self.now in
    let xs = elements_of p in
    let n = c.args.row.count in
    elim c.if-is_low.branch [
      | then-is_low w ↦ (
          let lowest = lowest (height_of c.args.row.height) (sym c.is_low.ensures ∙ w.if-is_low.true) in
          let ys = elements_in w.lower_dividers.new.builder in
          let low = all_lowered (height_of c.args.row.height) n xs ys lowest w.lower_dividers.ensures in
          let put = c.in_ok-put_row.ensures ∙ rw w.self-is refl in
          subst (λ q. Follows (to_do p + 13) (record q { builder = c.enclose.new.builder }) (state.Core c.new.result)) (sym w.self-is)
          (enclosed_step p c.take_delimiter.new.self c.enclose.new.builder c.new.result (delimiter_text c.in-Some.closing) n _ ys (elements_in c.put_row.new.builder) c.requires c.in-Some.ensures.next (ap length low.below) put c.in_ok-enclose.ensures))
      | else-is_low w ↦ (
          let put = c.in_ok-put_row.ensures ∙ rw w.self-is refl in
          subst (λ q. Follows (to_do p + 13) (record q { builder = c.enclose.new.builder }) (state.Core c.new.result)) (sym w.self-is)
          (enclosed_step p c.take_delimiter.new.self c.enclose.new.builder c.new.result (delimiter_text c.in-Some.closing) n _ xs (elements_in c.put_row.new.builder) c.requires c.in-Some.ensures.next refl put c.in_ok-enclose.ensures))
    ]
