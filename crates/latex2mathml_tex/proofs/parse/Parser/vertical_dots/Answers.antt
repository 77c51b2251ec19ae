use Rattle.std.proofs.Common.{refl}
use Rattle.latex2mathml_tex_grammar.specs.SpacedSigns.{vertical_dots}
use Rattle.latex2mathml_tex.proofs.Putting.{core_put}
use Rattle.latex2mathml_tex.proofs.parse.Parser.vertical_dots.Goals as goal

pub returns-clause-holds : goal.returns-clause-holds
returns-clause-holds c = λ s g. core_put s c.args.self.now c.put_vertical_dots.new.builder c.new.result vertical_dots.atom.element vertical_dots c.in_ok-put_vertical_dots.ensures (rw c.new.ensures refl) g
