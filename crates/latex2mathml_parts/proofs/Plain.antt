-- Elements of plain characters are texts.
use Rattle.std.proofs.Common.{ℕ, ◌<◌, arith}
use Rattle.std.proofs.lemmas.Str.{Ascii.IsAscii-from_all, IsUtf8-from_ascii}
use Rattle.std.specs.Str.{IsUtf8}
use Rattle.latex2mathml_parts.specs.Plain.{plain_print}

pub plain_is_text : (letter c : ℕ) → letter < 128 → c < 128 → IsUtf8 (plain_print letter c)
plain_is_text letter c h k = IsUtf8-from_ascii (plain_print letter c) (IsAscii-from_all (plain_print letter c) (grind arith))
