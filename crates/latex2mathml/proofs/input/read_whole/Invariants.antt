-- The vector holds what was read so far, and the source can go on.
use Rattle.std.proofs.Common.{◌-◌, ◌^◌, vec_len}
use Rattle.latex2mathml.specs.Streams.{CanGoOn, Gives}
use Rattle.latex2mathml.proofs.input.read_whole.Given as goal

abbrev pub invariant-loop-bytes : goal.invariant-loop-bytes
invariant-loop-bytes g l =
    Gives (g.S.Source.state l.initial.source) (g.S.Source.state l.source) l.bytes.items
    × CanGoOn (g.S.Source.state l.source)

abbrev pub decreases-loop-bytes : goal.decreases-loop-bytes
decreases-loop-bytes g l = 2 ^ 64 - vec_len l.bytes
