use Rattle.std.proofs.Common.{refl}
use Rattle.latex2mathml_tex.proofs.Putting.{core_put}
use Rattle.latex2mathml_tex.proofs.parse.Parser.function_name.Goals as goal

pub returns-clause-holds : goal.returns-clause-holds
returns-clause-holds c = λ s g. core_put s c.args.self.now c.text.new.self _ _ _ c.in_ok-text.ensures.elements (rw c.plain.ensures refl) g
