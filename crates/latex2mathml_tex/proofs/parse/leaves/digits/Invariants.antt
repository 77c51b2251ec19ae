use Rattle.std.proofs.Common.{◌≡◌, option_map}
use Rattle.latex2mathml_builder.specs.{Built.elements_in, Stacks.lengthened}
use Rattle.latex2mathml_tex_grammar.specs.{Makes.digits_in, Next.digits_next}
use Rattle.latex2mathml_tex_units.specs.Left.{unit_count, units_at}
use Rattle.latex2mathml_tex_commands.specs.Meanings.{alphabet_of}
use Rattle.latex2mathml_tex.proofs.parse.leaves.digits.Given as goal

abbrev pub invariant-digits : goal.invariant-digits
invariant-digits l = record {
  units : (digits_next (units_at l.input)).1 ≡ (digits_next (units_at l.fn.input)).1;
  elements : lengthened (digits_in (option_map alphabet_of l.fn.alphabet) (digits_next (units_at l.input)).0) (elements_in l.builder)
      ≡ lengthened (digits_in (option_map alphabet_of l.fn.alphabet) (digits_next (units_at l.fn.input)).0) (elements_in l.fn.builder);
}

abbrev pub decreases-digits : goal.decreases-digits
decreases-digits l = unit_count (units_at l.input)
