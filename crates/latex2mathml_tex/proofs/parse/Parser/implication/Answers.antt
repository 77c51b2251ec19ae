use Rattle.std.proofs.Common.{refl}
use Rattle.latex2mathml_tex_grammar.specs.SpacedSigns.{implication}
use Rattle.latex2mathml_tex.proofs.Putting.{core_put}
use Rattle.latex2mathml_tex.proofs.parse.Parser.implication.Goals as goal

pub returns-clause-holds : goal.returns-clause-holds
returns-clause-holds c = λ s g. core_put s c.args.self.now c.put_implication.new.builder c.new.result (implication c.args.sign).atom.element (implication c.args.sign) c.in_ok-put_implication.ensures (rw c.new.ensures refl) g
