use Rattle.std.proofs.Common.{◌≡◌, ◌∙◌, ap, false, option_map, refl, subst, sym, true, arith}
use Rattle.std.specs.Char.{is_ascii_alphabetic, is_ascii_digit}
use Rattle.latex2mathml_tex_grammar.specs.{Makes.core, Rules.character_rule, Rules.gives}
use Rattle.latex2mathml_tex_grammar.specs.Makes
use Rattle.latex2mathml_tex_commands.specs.Meanings.{alphabet_of}
use Rattle.latex2mathml_tex_atoms.specs.Models.{context_of}
use Rattle.latex2mathml_tex.specs.Steps.{Begins}
use Rattle.latex2mathml_tex_units.specs.declared.unit.Piece.TheVariants as piece
use Rattle.latex2mathml_tex.proofs.{Beginning.unit_begins, Putting.put_held, RuleSteps.begun}
use Rattle.latex2mathml_tex.proofs.Rows.{step_within}
use Rattle.latex2mathml_tex.proofs.parse.Parser.begin_whole.Goals as goal

pub returns-clause-holds : goal.returns-clause-holds
returns-clause-holds c = λ s g.
    let p = c.args.self.now in
    let k = c.context-context.result in
    let c0 = c.in-Character.c in
    let no_digit : is_ascii_digit c0 ≡ false = ap is_ascii_digit (sym c.in-Character.c-is) ∙ sym c.is_ascii_digit.ensures.value ∙ c.if-not-is_ascii_digit.true in
    let alphabetic : is_ascii_alphabetic c0 ≡ true = ap is_ascii_alphabetic (sym c.in-Character.c-is) ∙ sym c.is_ascii_alphabetic.ensures.value ∙ c.if-is_ascii_alphabetic.true in
    let drawn = core (Makes.letter (option_map alphabet_of k.alphabet) c0) in
    let rule : character_rule (context_of k) c0 c.args.unit.place ≡ gives drawn = rw (no_digit, alphabetic) refl in
    let begins = unit_begins s p c.innermost.result k c.args.unit (piece.Character c0) c.context-context.ensures c.in-Character.is c.innermost.ensures g in
    c.deliver_core.ensures.holds s (put_held s p c.put_letter.new.builder c.in_ok-letter.letter drawn c.in_ok-letter.ensures (subst (λ r. Begins r 0 s p) rule (begun begins)))

pub returns-in-Core-clause-holds : goal.returns-in-Core-clause-holds
returns-in-Core-clause-holds c = λ s g. c.deliver_core-in-Core.ensures.holds s (rw c.in-Core.is at c.in_ok-begin.ensures.holds s g)

pub deliver_core-requires : goal.deliver_core-requires
deliver_core-requires c = record {
  elements = rw c.in_ok-letter.ensures.element (omega (arith, c.requires.begin.elements));
  may_come = record { accepted = c.requires.begin.awaits.accepted; nested = c.requires.begin.awaits.nested };
}

pub returns-clause-step : goal.returns-clause-step
returns-clause-step c =
    let p = c.args.self.now in
    step_within p (record p { builder = c.put_letter.new.builder }) c.deliver_core.new.self c.deliver_core.new.next c.deliver_core.result 3 13 (omega arith) c.deliver_core.ensures.step
