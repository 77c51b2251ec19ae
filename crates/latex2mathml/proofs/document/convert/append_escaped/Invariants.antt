use Rattle.std.proofs.Common.{string_bytes, length}
use denote.Text.{Utf8}
use denote.Shadow.{shadow}
use Rattle.latex2mathml.proofs.ProseTexts.{IsPutSoFar}
use Rattle.latex2mathml.proofs.document.convert.append_escaped.Given as goal

abbrev pub invariant-loop-before : goal.invariant-loop-before
invariant-loop-before l = record { utf8 : shadow (Utf8 l.rest); so_far : IsPutSoFar l.prose (string_bytes l.fn.text) (string_bytes l.text) l.rest }

abbrev pub decreases-loop-before : goal.decreases-loop-before
decreases-loop-before l = length l.rest
