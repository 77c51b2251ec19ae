use Rattle.std.proofs.Common.{refl}
use Rattle.latex2mathml_tex_grammar.specs.SpacedSigns.{spaced_dots}
use Rattle.latex2mathml_tex.proofs.Putting.{core_put}
use Rattle.latex2mathml_tex.proofs.parse.Parser.spaced_dots.Goals as goal

pub returns-clause-holds : goal.returns-clause-holds
returns-clause-holds c = λ s g.
    let k = spaced_dots c.args.dots in
    core_put s c.args.self.now c.put_spaced_dots.new.builder c.new.result k.atom.element k c.in_ok-put_spaced_dots.ensures (rw c.new.ensures refl) g
