use Rattle.std.proofs.Common.{◌≡◌, ◌≤◌, ◌∷◌, ◌++◌, [], List, ℕ, Option, arith, refl}
use Rattle.latex2mathml_builder.specs.Built.{elements_in}
use Rattle.latex2mathml_tex_grammar.specs.{Commands.symbol_of, Makes.core, Makes.number, Next.digits_next, Symbols.Alphabet}
use Rattle.latex2mathml_tex_grammar.specs.Rules.{a_digit, a_symbol, decimal, gives}
use Rattle.latex2mathml_tex_units.specs.Left.{unit_count, units_at}
use Rattle.latex2mathml_tex_atoms.specs.Models.{context_of}
use Rattle.latex2mathml_tex.specs.Steps.{elements_of, left_of}
use Rattle.latex2mathml_tex.specs.declared.parse.Parser.{Parser}
use Rattle.latex2mathml_tex.proofs.Digits.{longer_number, no_more_behind_digits}
use Rattle.latex2mathml_tex_units.proofs.Nexts.{no_more_taken}
use Rattle.latex2mathml_tex.proofs.Putting.{core_step, number_put, past_digits, past_none, past_units}
use Rattle.latex2mathml_tex.proofs.parse.Parser.point.Goals as goal

pub returns-in_default-clause-holds : goal.returns-in_default-clause-holds
returns-in_default-clause-holds c = λ s g.
    c.other_character.ensures.holds s (past_none s c.args.self.now c.take_digit.new.self (a_symbol (context_of c.args.context) 46 (symbol_of 46)) c.in_default.ensures.next.0 c.in_default.ensures.next.1 g)

abbrev alphabet : goal.After-number → Option Alphabet
alphabet c = (context_of c.args.context).alphabet

abbrev before : goal.After-number → Parser
before c = c.args.self.now

-- the parser after the first digit
abbrev behind : goal.After-number → Parser
behind c = record (before c) { input = c.take_digit.new.self }

-- the point and that digit, and the digits that come next
abbrev first : goal.After-number → List ℕ
first c = 46 ∷ c.in-Some.digit ∷ []

abbrev more : goal.After-number → List ℕ
more c = (digits_next (left_of (behind c))).0

whole_put : (c : goal.After-number) → elements_in c.digits.new.builder ≡ (number (alphabet c) (first c ++ more c)).element ∷ elements_of (before c)
whole_put c =
    let first_put = longer_number (alphabet c) (46 ∷ []) (c.in-Some.digit ∷ []) (elements_of (before c)) (elements_in c.begin_number.new.builder) (elements_in c.append_digit.new.builder) c.in_ok-begin_number.ensures c.in_ok-append_digit.ensures in
    longer_number (alphabet c) (first c) (more c) (elements_of (before c)) (elements_in c.append_digit.new.builder) (elements_in c.digits.new.builder) first_put c.in_ok-digits.ensures.elements

pub returns-clause-holds : goal.returns-clause-holds
returns-clause-holds c = λ s g.
    let digit_begins = past_units s (before c) c.take_digit.new.self (λ digit. decimal (context_of c.args.context) (46 ∷ digit)) (c.in-Some.digit ∷ []) c.in-Some.ensures.next g in
    let begins = past_digits s (behind c) c.digits.new.input (λ ds. gives (core (number (context_of c.args.context).alphabet (first c ++ ds)))) c.in_ok-digits.ensures.units digit_begins in
    number_put s (record (before c) { input = c.digits.new.input }) c.digits.new.builder c.number.result (alphabet c) (context_of c.args.context).alphabet (first c ++ more c) c.number.ensures refl (whole_put c) begins

pub returns-clause-step : goal.returns-clause-step
returns-clause-step c =
    let digit = no_more_taken (a_digit ∷ []) (left_of (before c)) (left_of (behind c)) (c.in-Some.digit ∷ []) c.in-Some.ensures.next in
    let digits = no_more_behind_digits (left_of (behind c)) in
    let less : unit_count (units_at c.digits.new.input) ≤ unit_count (left_of (before c)) = rw c.in_ok-digits.ensures.units (omega (arith, digit, digits)) in
    core_step (before c) c.digits.new.input c.digits.new.builder c.number.result _ c.requires (whole_put c) less
