use Rattle.std.proofs.Common.{◌≡◌, arith, length}
use Rattle.latex2mathml_builder.proofs.Bytes.{one_byte, short_is_text, two_bytes}
use Rattle.latex2mathml_builder.proofs.texts.write_short.Goals as goal

pub push_bytes-requires : goal.push_bytes-requires
push_bytes-requires c =
    let len : length c.as_bytes.result.now ≡ 1 = omega arith in
    short_is_text c.args.letter _ c.requires (one_byte _ len c.as_bytes.ensures.utf8)

pub push_bytes-requires-in-len2 : goal.push_bytes-requires-in-len2
push_bytes-requires-in-len2 c =
    let len : length c.as_bytes.result.now ≡ 2 = omega arith in
    short_is_text c.args.letter _ c.requires (two_bytes _ len c.as_bytes.ensures.utf8)
