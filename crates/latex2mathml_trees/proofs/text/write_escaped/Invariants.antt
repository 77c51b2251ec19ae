-- The characters so far are written.
use Rattle.std.specs.{Fmt.HasWritten, Fmt.IsPlainFormatter, Str.encode_utf8_all}
use Rattle.latex2mathml_trees.specs.Texts.{escaped}
use Rattle.latex2mathml_trees.proofs.text.write_escaped.Given as goal

abbrev pub invariant-loop-c : goal.invariant-loop-c
invariant-loop-c g l =
    IsPlainFormatter l.initial.f
    → HasWritten g.W.Write.write_str_gives l.initial.f (escaped l.fn.place (encode_utf8_all l.yielded)) l.f
