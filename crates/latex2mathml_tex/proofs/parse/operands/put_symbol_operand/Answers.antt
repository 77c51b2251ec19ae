use Rattle.std.proofs.Common.{◌≡◌, ◌∙◌, true, false, ap, sym}
use Rattle.std.specs.Char.{is_ascii_digit}
use Rattle.latex2mathml_builder.specs.Built.{elements_in}
use Rattle.latex2mathml_tex_atoms.specs.Models.{core_with}
use Rattle.latex2mathml_tex.proofs.SymbolOperands.{is_letter, took_digit, took_letter}
use Rattle.latex2mathml_tex.proofs.parse.operands.put_symbol_operand.Goals as goal
use Rattle.latex2mathml_tex.proofs.parse.operands.put_symbol_operand.Goals.{then-is_ascii_digit+in_ok-begin_number, else-is_ascii_digit+in_ok-core}

pub returns : goal.returns
returns c =
    let k = c.args.context in
    let i = c.args.input.now in
    let j = c.take_lone.new.self in
    let lone = c.in-Some.ensures.taken in
    let old = c.args.builder.now in
    let middle = c.if-is_ascii_digit.builder in
    let new = c.with_atom.new.builder in
    let put = c.in_ok-row.ensures in
    elim c.if-is_ascii_digit.branch [
      | then-is_ascii_digit+in_ok-begin_number w ↦ (
          let one : is_ascii_digit c.in-Some.c ≡ true = sym c.is_ascii_digit.ensures.value ∙ w.if-is_ascii_digit.true in
          took_digit k i j c.in-Some.c lone old middle new c.in_ok-row.row c.if-is_ascii_digit.core (rw c.empty.ensures at put.below) put.count one (ap elements_in w.builder-is ∙ w.in_ok-begin_number.ensures) (λ x. ap (λ core. core_with core x) w.core-is ∙ w.number-core.ensures x) (rw c.empty.ensures at put.row))
      | else-is_ascii_digit+in_ok-core w ↦ (
          let none : is_ascii_digit c.in-Some.c ≡ false = sym c.is_ascii_digit.ensures.value ∙ w.if-is_ascii_digit.false in
          took_letter k i j c.in-Some.c lone old middle new c.in_ok-row.row c.if-is_ascii_digit.core (rw c.empty.ensures at put.below) put.count none (is_letter c.in-Some.c c.in-Some.ensures.kind none) (rw (w.core-is, w.builder-is) w.in_ok-core.ensures) (rw c.empty.ensures at put.row))
    ]
