-- The result of writing a line.
use Rattle.std.proofs.Common.{ℕ, List, Result, Ok, Err, IfErr, OnOk, ◌≡◌, subst}
use Rattle.latex2mathml.specs.declared.error.FileFault.{FileFault}
use Rattle.latex2mathml.specs.declared.error.FileFault.TheVariants.{List as Unlisted, Entry, TooDeep, Read, NotText, Refused, Create, Write}
use Rattle.latex2mathml.specs.Streams.{CanGoOn, IsStopped, StreamState, Takes}
use Rattle.latex2mathml_tex_program.specs.Exits.{LinePrinted, Stopped, Whole}

-- a line for which memory was found was written to a stream
pub printed : (line : List ℕ) (old new : StreamState) (result : Result Unit FileFault)
    → OnOk result (Takes old new line)
    → OnOk result (CanGoOn new)
    → IfErr result (λ fault. IsStopped fault line old new)
    → LinePrinted line old new
printed line old new (Ok _) taken ready stopped = Whole ready taken
printed line old new (Err (Write written cause)) taken ready stopped = Stopped written cause stopped
printed line old new (Err Read) taken ready stopped = absurd stopped
printed line old new (Err NotText) taken ready stopped = absurd stopped
printed line old new (Err (Refused error)) taken ready stopped = absurd stopped
printed line old new (Err Unlisted) taken ready stopped = absurd stopped
printed line old new (Err Entry) taken ready stopped = absurd stopped
printed line old new (Err TooDeep) taken ready stopped = absurd stopped
printed line old new (Err Create) taken ready stopped = absurd stopped

-- the same if the line equals another
pub printed_as : (line other : List ℕ) (old new : StreamState) (result : Result Unit FileFault)
    → line ≡ other
    → OnOk result (Takes old new line)
    → OnOk result (CanGoOn new)
    → IfErr result (λ fault. IsStopped fault line old new)
    → LinePrinted other old new
printed_as line other old new result same taken ready stopped =
    subst (λ l. LinePrinted l old new) same (printed line old new result taken ready stopped)
