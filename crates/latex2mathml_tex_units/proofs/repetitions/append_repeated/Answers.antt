use Rattle.std.proofs.Common.{◌+◌, refl, string_bytes}
use Rattle.latex2mathml_tex_units.proofs.WrittenOut.{appended_once_more}
use Rattle.latex2mathml_tex_units.proofs.repetitions.append_repeated.Goals as goal

pub loop-preserved : goal.loop-preserved
loop-preserved c =
    appended_once_more (string_bytes c.args.out.now) (string_bytes c.loop.out) _ c.around.result.1.now c.loop.counter (c.loop.counter + 1) c.loop.invariant c.in_ok-push_str.ensures.bytes refl
