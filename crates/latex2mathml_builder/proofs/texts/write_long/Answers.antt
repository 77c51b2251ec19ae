use Rattle.std.proofs.Common.{◌≡◌, arith, length}
use Rattle.latex2mathml_builder.proofs.Bytes.{end_is_text, short_is_text, start_is_text, three_bytes}
use Rattle.latex2mathml_builder.proofs.texts.write_long.Goals as goal

pub push_bytes-requires : goal.push_bytes-requires
push_bytes-requires c =
    let len : length c.as_bytes.result.now ≡ 3 = omega arith in
    short_is_text c.args.letter _ c.requires (three_bytes _ len c.as_bytes.ensures.utf8)

pub push_bytes-requires-2 : goal.push_bytes-requires-2
push_bytes-requires-2 c = start_is_text c.args.letter c.requires

pub push_bytes-requires-3 : goal.push_bytes-requires-3
push_bytes-requires-3 c = end_is_text c.args.letter c.requires
