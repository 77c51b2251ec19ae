-- the lines so far were written, some left out, and the stream can take more
use Rattle.std.proofs.Common.{ℕ, List, map, take}
use Rattle.latex2mathml.specs.Streams.{CanGoOn, Takes}
use Rattle.latex2mathml_program.specs.Serving.{JoinsSomeOf, unconverted_line}
use Rattle.latex2mathml_program.proofs.serving.put_all_unconverted.Given as goal

abbrev pub invariant-loop-unconverted : goal.invariant-loop-unconverted
invariant-loop-unconverted g l =
    CanGoOn (g.E.Sink.state l.errors)
    × ((text : List ℕ)
    × JoinsSomeOf (map unconverted_line (take l.unconverted-index l.all)) text
    × Takes (g.E.Sink.state l.initial.errors) (g.E.Sink.state l.errors) text)
