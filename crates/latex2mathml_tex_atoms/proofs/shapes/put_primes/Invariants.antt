-- `counter` primes are put.
use Rattle.std.proofs.Common.{◌≡◌, ◌∷◌, Some}
use Rattle.latex2mathml_builder.specs.Built.{elements_in}
use Rattle.latex2mathml_elements.specs.Attributes.{NoSpace, plain}
use Rattle.latex2mathml_elements.specs.Element.{Mo, token}
use Rattle.latex2mathml_tex_grammar.specs.Makes
use Rattle.latex2mathml_tex_atoms.proofs.shapes.put_primes.Given as goal

abbrev pub invariant-loop : goal.invariant-loop
invariant-loop l = elements_in l.builder ≡ token Mo (record plain { space = Some NoSpace }) (Makes.primes_text l.counter) ∷ elements_in l.fn.builder
