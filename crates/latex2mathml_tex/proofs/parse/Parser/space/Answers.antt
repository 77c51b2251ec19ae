use Rattle.std.proofs.Common.{◌≡◌, arith, of_z, refl, to_z, w32}
use Rattle.std.proofs.lemmas.Int.{ints}
use Rattle.latex2mathml_elements.specs.Element.{space}
use Rattle.latex2mathml_tex_grammar.specs.Makes.{core, spacing}
use Rattle.latex2mathml_tex.proofs.Putting.{core_put}
use Rattle.latex2mathml_tex.proofs.parse.Parser.space.Goals as goal

pub returns-clause-holds : goal.returns-clause-holds
returns-clause-holds c = λ s g.
    let same : to_z w32 (of_z w32 c.from.result) ≡ c.args.width = omega (arith, ints, c.from.ensures) in
    core_put s c.args.self.now c.space.new.self c.new.result (space (to_z w32 (of_z w32 c.from.result))) (core (spacing c.args.width)) c.in_ok-space.ensures.elements (rw (same, c.new.ensures) refl) g
