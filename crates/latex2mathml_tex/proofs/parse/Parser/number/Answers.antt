use Rattle.std.proofs.Common.{◌≡◌, ◌≤◌, ◌∷◌, ◌++◌, [], List, ℕ, Option, arith, option_map, subst, sym}
use Rattle.latex2mathml_builder.specs.Built.{elements_in}
use Rattle.latex2mathml_tex_grammar.specs.{Makes.core, Makes.number, Next.digits_next, Symbols.Alphabet}
use Rattle.latex2mathml_tex_grammar.specs.Rules.{a_character, a_digit, after_digits, decimal, gives}
use Rattle.latex2mathml_tex_units.specs.Left.{unit_count, units_at}
use Rattle.latex2mathml_tex_commands.specs.Meanings.{alphabet_of}
use Rattle.latex2mathml_tex.specs.Frames.{Start}
use Rattle.latex2mathml_tex_atoms.specs.Models.{context_of}
use Rattle.latex2mathml_tex.specs.Steps.{Begins, Holds, NumberBegins, elements_of, left_of}
use Rattle.latex2mathml_tex.specs.declared.parse.Parser.{Parser}
use Rattle.latex2mathml_tex.specs.declared.parse.State.TheVariants as state
use Rattle.latex2mathml_tex.proofs.Digits.{longer_by_point, longer_number, no_more_behind_digits}
use Rattle.latex2mathml_tex_units.proofs.Nexts.{no_more_taken}
use Rattle.latex2mathml_tex.proofs.Putting.{core_step, number_put, past_digits, past_none, past_units}
use Rattle.latex2mathml_tex.proofs.parse.Parser.number.Goals as goal
use Rattle.latex2mathml_tex.proofs.parse.Parser.number.Goals.{in-Some+in_ok-append_digit+in_ok-append_digit-2+in_ok-digits-2, in_default}

abbrev alphabet : goal.After-number → Option Alphabet
alphabet c = option_map alphabet_of c.args.alphabet

abbrev before : goal.After-number → Parser
before c = c.args.self.now

-- the digits that come first, and the parser after them
abbrev whole : goal.After-number → List ℕ
whole c = c.args.digit ∷ (digits_next (left_of (before c))).0

abbrev behind : goal.After-number → Parser
behind c = record (before c) { input = c.digits.new.input }

whole_put : (c : goal.After-number) → elements_in c.digits.new.builder ≡ (number (alphabet c) (whole c)).element ∷ elements_of (before c)
whole_put c = longer_number (alphabet c) (c.args.digit ∷ []) (digits_next (left_of (before c))).0 (elements_of (before c)) (elements_in c.begin_number.new.builder) (elements_in c.digits.new.builder) c.in_ok-begin_number.ensures c.in_ok-digits.ensures.elements

whole_begins : (c : goal.After-number) (s : Start) (g : NumberBegins c.args.alphabet c.args.digit s (before c)) → Begins (after_digits (context_of g.0) (whole c)) 0 s (behind c)
whole_begins c s g = past_digits s (before c) c.digits.new.input (λ more. after_digits (context_of g.0) (c.args.digit ∷ more)) c.in_ok-digits.ensures.units g.2

no_more_behind : (c : goal.After-number) → unit_count (left_of (behind c)) ≤ unit_count (left_of (before c))
no_more_behind c = rw c.in_ok-digits.ensures.units (no_more_behind_digits (left_of (before c)))

pub returns-clause-holds : goal.returns-clause-holds
returns-clause-holds c = λ s g. elim c.match-take_point.branch [
  | in-Some+in_ok-append_digit+in_ok-append_digit-2+in_ok-digits-2 w ↦ (
      let p : Parser = record (before c) { input = c.take_point.new.self } in
      let with_point : List ℕ = whole c ++ 46 ∷ w.in-Some.next ∷ [] in
      let more : List ℕ = (digits_next (left_of p)).0 in
      let point_begins : Begins (decimal (context_of g.0) with_point) 0 s p = past_units s (behind c) c.take_point.new.self (λ point. decimal (context_of g.0) (whole c ++ point)) (46 ∷ w.in-Some.next ∷ []) w.in-Some.ensures (whole_begins c s g) in
      let begins = past_digits s p w.digits-in-Some.new.input (λ ds. gives (core (number (context_of g.0).alphabet (with_point ++ ds)))) w.in_ok-digits-2.ensures.units point_begins in
      let put = longer_by_point (alphabet c) (whole c) 46 w.in-Some.next more (elements_of p) (elements_in c.digits.new.builder) (elements_in w.append_digit.new.builder) (elements_in w.append_digit-in-Some.new.builder) (elements_in w.digits-in-Some.new.builder) (whole_put c) w.in_ok-append_digit.ensures w.in_ok-append_digit-2.ensures w.in_ok-digits-2.ensures.elements in
      subst (λ q. Holds s q (state.Core c.number.result)) (sym w.self-is) (number_put s (record p { input = w.digits-in-Some.new.input }) w.digits-in-Some.new.builder c.number.result (alphabet c) (context_of g.0).alphabet (with_point ++ more) c.number.ensures g.1 put begins))
  | in_default w ↦ (
      let begins = past_none s (behind c) c.take_point.new.self (gives (core (number (context_of g.0).alphabet (whole c)))) w.in_default.ensures.0 w.in_default.ensures.1 (whole_begins c s g) in
      subst (λ q. Holds s q (state.Core c.number.result)) (sym w.self-is) (number_put s (record (before c) { input = c.take_point.new.self }) c.digits.new.builder c.number.result (alphabet c) (context_of g.0).alphabet (whole c) c.number.ensures g.1 (whole_put c) begins))
]

pub returns-clause-step : goal.returns-clause-step
returns-clause-step c = elim c.match-take_point.branch [
  | in-Some+in_ok-append_digit+in_ok-append_digit-2+in_ok-digits-2 w ↦ (
      let l = units_at c.take_point.new.self in
      let put = longer_by_point (alphabet c) (whole c) 46 w.in-Some.next (digits_next l).0 (elements_of (before c)) (elements_in c.digits.new.builder) (elements_in w.append_digit.new.builder) (elements_in w.append_digit-in-Some.new.builder) (elements_in w.digits-in-Some.new.builder) (whole_put c) w.in_ok-append_digit.ensures w.in_ok-append_digit-2.ensures w.in_ok-digits-2.ensures.elements in
      let point = no_more_taken (a_character 46 ∷ a_digit ∷ []) (left_of (behind c)) l (46 ∷ w.in-Some.next ∷ []) w.in-Some.ensures in
      let more = no_more_behind_digits l in
      let less : unit_count (units_at w.digits-in-Some.new.input) ≤ unit_count (left_of (before c)) = rw w.in_ok-digits-2.ensures.units (omega (arith, point, more, no_more_behind c)) in
      rw w.self-is (core_step (before c) w.digits-in-Some.new.input w.digits-in-Some.new.builder c.number.result _ c.requires.begin put less))
  | in_default w ↦ (
      let less : unit_count (units_at c.take_point.new.self) ≤ unit_count (left_of (before c)) = rw w.in_default.ensures.1 (no_more_behind c) in
      rw w.self-is (core_step (before c) c.take_point.new.self c.digits.new.builder c.number.result _ c.requires.begin (whole_put c) less))
]
