use Rattle.latex2mathml_builder.proofs.Sound.{sound_push}
use Rattle.latex2mathml_builder.proofs.builder.Builder.rectangle.Goals as goal

pub invariant_of-self-2 : goal.invariant_of-self-2
invariant_of-self-2 c = rw c.in_ok-push.ensures.items (sound_push _ _ _ _ c.self.invariant tt tt tt)
