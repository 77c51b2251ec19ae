use Rattle.std.proofs.Common.{◌≡◌, ◌∷◌, [], option_map, true, ap, subst, sym, ◌∙◌, arith}
use Rattle.std.specs.Char.{is_ascii_digit}
use Rattle.latex2mathml_builder.specs.Built.{elements_in}
use Rattle.latex2mathml_tex_grammar.specs.Makes.{number}
use Rattle.latex2mathml_tex_grammar.specs.Starts.{OtherStart, operand_start}
use Rattle.latex2mathml_tex_commands.specs.Meanings.{alphabet_of}
use Rattle.latex2mathml_tex_units.specs.Taking.{piece_of}
use Rattle.latex2mathml_tex.specs.Steps.{elements_of}
use Rattle.latex2mathml_tex.proofs.Beginning.{digit_taken, group_taken, not_digit_starts, other_starts, other_taken}
use Rattle.latex2mathml_tex.proofs.Rows.{step_within}
use Rattle.latex2mathml_tex.proofs.parse.Parser.begin_operand.Goals as goal
use Rattle.latex2mathml_tex.proofs.parse.Parser.begin_operand.Goals.{in_default-via-in-Character+else-is_ascii_digit, in_default-via-in_default}

pub returns-in-Open-clause-holds : goal.returns-in-Open-clause-holds
returns-in-Open-clause-holds c = λ s g.
    c.open.ensures.holds s g.style (group_taken s c.args.self.now c.args.unit c.requires.due c.requires.some g c.context-context.result c.innermost.result c.empty.result c.context-context.ensures c.innermost.ensures c.empty.ensures c.in-Open.is)

pub returns-in_ok-begin_number-in-Character-clause-holds :
    goal.returns-in_ok-begin_number-in-Character-clause-holds
returns-in_ok-begin_number-in-Character-clause-holds c = λ s g.
    let p = c.args.self.now in
    let b = c.begin_number.new.builder in
    let k = c.context-context.result in
    let digit = c.in-Character.c in
    let is_digit : is_ascii_digit digit ≡ true = ap is_ascii_digit (sym c.in-Character.c-is) ∙ sym c.is_ascii_digit.ensures.value ∙ c.if-is_ascii_digit.true in
    let put : elements_in b ≡ (number (option_map alphabet_of k.alphabet) (digit ∷ [])).element ∷ elements_of p =
    subst (λ d. elements_in b ≡ (number (option_map alphabet_of k.alphabet) (d ∷ [])).element ∷ elements_of p) c.in-Character.c-is c.in_ok-begin_number-in-Character.ensures in
    c.deliver_core.ensures.holds s (digit_taken s p c.args.unit c.requires.due c.requires.some g b k c.innermost.result c.number.result digit c.context-context.ensures c.innermost.ensures c.in-Character.is is_digit put c.number.ensures)

pub returns-in_default-clause-holds : goal.returns-in_default-clause-holds
returns-in_default-clause-holds c = λ s g.
    let starts : operand_start (piece_of c.args.unit.piece) ≡ OtherStart = elim c.in_default.branch [
      | in_default-via-in-Character+else-is_ascii_digit w ↦ not_digit_starts c.args.unit.piece w.in-Character.c w.in-Character.is (ap is_ascii_digit (sym w.in-Character.c-is) ∙ sym w.is_ascii_digit.ensures.value ∙ w.if-is_ascii_digit.false) c.requires.some
      | in_default-via-in_default w ↦ other_starts c.args.unit.piece w.in_default.not-Open w.in_default.not-Character c.requires.some
    ] in
    c.begin_whole.ensures.holds s (other_taken s c.args.self.now c.args.unit c.requires.due c.requires.some g starts)

pub deliver_core-requires : goal.deliver_core-requires
deliver_core-requires c = record {
  elements = rw c.in_ok-begin_number-in-Character.ensures (omega (arith, c.requires.begin.elements));
  may_come = record { accepted = c.requires.begin.awaits.accepted; nested = c.requires.begin.awaits.nested };
}

pub returns-in_ok-begin_number-in-Character-clause-step :
    goal.returns-in_ok-begin_number-in-Character-clause-step
returns-in_ok-begin_number-in-Character-clause-step c =
    let p = c.args.self.now in
    step_within p (record p { builder = c.begin_number.new.builder }) c.deliver_core.new.self c.deliver_core.new.next c.deliver_core.result 3 13 (omega arith) c.deliver_core.ensures.step

pub returns-in-Open-clause-step : goal.returns-in-Open-clause-step
returns-in-Open-clause-step c = step_within c.args.self.now c.args.self.now c.open.new.self c.open.new.next c.open.result 6 13 (omega arith) c.open.ensures.step
