-- What was written so far is the front of the text, and the sink can go on.
use Rattle.std.proofs.Common.{◌-◌, ◌≤◌, length, take}
use Rattle.latex2mathml.specs.Streams.{CanGoOn, Takes}
use Rattle.latex2mathml.proofs.stream.write_text.Given as goal

abbrev pub invariant-loop-written : goal.invariant-loop-written
invariant-loop-written g l =
    (l.written ≤ length l.bytes)
    × Takes (g.S.Sink.state l.initial.sink) (g.S.Sink.state l.sink) (take l.written l.bytes)
    × CanGoOn (g.S.Sink.state l.sink)

abbrev pub decreases-loop-written : goal.decreases-loop-written
decreases-loop-written g l = length l.bytes - l.written
