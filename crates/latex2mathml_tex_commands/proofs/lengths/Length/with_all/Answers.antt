use Rattle.std.proofs.Common.{◌<◌, arith, length, refl}
use Rattle.latex2mathml_tex_commands.proofs.Telling.{one_told}
use Rattle.latex2mathml_tex_commands.proofs.lengths.Length.with_all.Goals as goal

pub characters-preserved : goal.characters-preserved
characters-preserved c =
    let there : c.characters.c-index < length c.args.text.now = omega (arith, c.characters-test.true) in
    record {
      so_far = one_told _ c.characters.c-index c.args.text.now _ _ _ there refl c.with_character-length.ensures.value c.characters.invariant.so_far;
      small = c.with_character-length.ensures.small;
    }
