use Rattle.std.proofs.Common.{refl}
use Rattle.latex2mathml.proofs.files.add.Goals as goal

pub returns : goal.returns
returns c = record {
  added = (_, c.in_ok-push.ensures.items, (c.in_ok-path.ensures.ok, refl));
}
