use Rattle.std.specs.Char.{encode_utf8}
use Rattle.latex2mathml_parts.proofs.Markups.{appended}
use Rattle.latex2mathml_parts.proofs.write.leaves.write_other_operator.Goals as goal

pub returns-in-8706 : goal.returns-in-8706
unfolding encode_utf8
returns-in-8706 c = rw c.in-8706.is (appended c.push_str-in-8706.result _ _ _ c.push_str-in-8706.ensures.bytes)
