use Rattle.std.proofs.Common.{◌∷◌, [], ap, ◌∙◌, sym, option_map}
use Rattle.latex2mathml_builder.specs.{Built.elements_in, Stacks.lengthened}
use Rattle.latex2mathml_tex_grammar.specs.{Makes.digits_in, Next.digits_next, Next.past_space, Rules.a_digit}
use Rattle.latex2mathml_tex_units.specs.Left.{units_at}
use Rattle.latex2mathml_tex_commands.specs.Meanings.{alphabet_of}
use Rattle.latex2mathml_tex_units.proofs.Nexts.{fewer_taken}
use Rattle.latex2mathml_tex.proofs.Digits.{no_digit, no_digit_longer, one_digit, one_digit_longer}
use Rattle.latex2mathml_tex.proofs.parse.leaves.digits.Goals as goal

pub digits-smaller : goal.digits-smaller
digits-smaller c = fewer_taken a_digit [] (units_at c.digits.input) (units_at c.take_digit.new.self) (c.in-Some.digit ∷ []) c.in-Some.ensures.next

pub digits-preserved : goal.digits-preserved
digits-preserved c = record {
  units = ap (λ found. found.1) (sym (one_digit (units_at c.digits.input) (units_at c.take_digit.new.self) c.in-Some.digit c.in-Some.ensures.next)) ∙ c.digits.invariant.units;
  elements = ap (lengthened (digits_in (option_map alphabet_of c.args.alphabet) (digits_next (units_at c.take_digit.new.self)).0)) c.in_ok-append_digit.ensures
      ∙ one_digit_longer (option_map alphabet_of c.args.alphabet) (units_at c.digits.input) (units_at c.take_digit.new.self) c.in-Some.digit (elements_in c.digits.builder) c.in-Some.ensures.next
      ∙ c.digits.invariant.elements;
}

pub returns-clause-units : goal.returns-clause-units
returns-clause-units c = c.skip_space.ensures.left ∙ ap past_space c.in_default.ensures.next.1
    ∙ ap (λ found. found.1) (sym (no_digit (units_at c.digits.input) c.in_default.ensures.next.0)) ∙ c.digits.invariant.units

pub returns-clause-elements : goal.returns-clause-elements
returns-clause-elements c = sym (no_digit_longer (option_map alphabet_of c.args.alphabet) (units_at c.digits.input) (elements_in c.digits.builder) c.in_default.ensures.next.0) ∙ c.digits.invariant.elements
