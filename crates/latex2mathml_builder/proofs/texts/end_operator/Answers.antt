use Rattle.std.proofs.Common.{◌≡◌, arith, length}
use Rattle.latex2mathml_builder.proofs.Bytes.{ended_is_text, one_byte, three_bytes}
use Rattle.latex2mathml_builder.proofs.texts.end_operator.Goals as goal

pub push_bytes-requires : goal.push_bytes-requires
push_bytes-requires c =
    let len : length c.as_bytes.result.now ≡ 1 = omega arith in
    ended_is_text _ (one_byte _ len c.as_bytes.ensures.utf8)

pub push_bytes-requires-in-len3 : goal.push_bytes-requires-in-len3
push_bytes-requires-in-len3 c =
    let len : length c.as_bytes.result.now ≡ 3 = omega arith in
    ended_is_text _ (three_bytes _ len c.as_bytes.ensures.utf8)
