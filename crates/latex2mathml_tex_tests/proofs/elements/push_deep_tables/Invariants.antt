use Rattle.std.proofs.Common.{◌<◌, length}
use Rattle.latex2mathml_builder.specs.Built.{elements_in}
use Rattle.latex2mathml_tex_tests.proofs.elements.push_deep_tables.Given as goal

abbrev pub invariant-loop : goal.invariant-loop
invariant-loop l = 0 < length (elements_in l.builder)
