-- The characters so far are written, each with a backslash if it takes one.
use Rattle.std.specs.{Fmt.HasWritten, Fmt.IsPlainFormatter, List.flat_map, Str.encode_utf8_all}
use Rattle.latex2mathml_tokens.specs.Escape.{quoted_byte}
use Rattle.latex2mathml_tokens.proofs.token.text.QuotedDisplay.fmt.Given as goal

abbrev pub invariant-loop-c : goal.invariant-loop-c
invariant-loop-c g l =
    IsPlainFormatter l.initial.f
    → HasWritten g.W.Write.write_str_gives l.initial.f (flat_map quoted_byte (encode_utf8_all l.yielded)) l.f
