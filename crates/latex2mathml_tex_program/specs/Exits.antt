-- How the program ends, and what it prints if a run stopped. The first state of a stream is what is known of it before, and
-- the second what is known after.
use Rattle.std.specs.Prelude.{◌≡◌, ℕ, List, Option, Result, Ok, Err}
use Rattle.std.specs.Io.KnownBytes.{Keeps}
use Rattle.latex2mathml.specs.Streams.{CanGoOn, IsStopped, StreamState, Takes}
use Rattle.latex2mathml.specs.declared.error.{FileFault.TheVariants.Write, WriteCause.WriteCause}
use Rattle.latex2mathml_tex_program.specs.{Faults.fault_line, Runs.IsRun}
use Rattle.latex2mathml_tex_program.specs.declared.{fault.Fault.Fault, request.Request.Request}

-- the stream took nothing
abbrev pub IsSilent : StreamState → StreamState → Type 0
IsSilent old new = CanGoOn new × Keeps old.bytes new.bytes

-- how writing a line to a stream may end, where memory is needed for the line
pub data LinePrinted (line : List ℕ) (old new : StreamState) : Type 0 where
  -- the stream took the line
  Whole : CanGoOn new
      → Takes old new line
      → LinePrinted line old new
  -- the stream took the first bytes of the line, and failed or took no more
  Stopped : (written : ℕ) (cause : WriteCause)
      → IsStopped (Write written cause) line old new
      → LinePrinted line old new
  -- no memory was found for the line
  LeftOut : IsSilent old new → LinePrinted line old new

-- the status of a run that is done, and of one that stopped
abbrev pub done : ℕ
done = 0

abbrev pub stopped : ℕ
stopped = 1

-- the status and the error stream report the result of a run
abbrev pub ExitsWith : Result Unit Fault → StreamState → StreamState → ℕ → Type 0
ExitsWith (Ok _) old new status = (status ≡ done) × IsSilent old new
ExitsWith (Err fault) old new status =
    (status ≡ stopped) × LinePrinted (fault_line fault) old new

-- how serving a request may end, by what is known of the bytes of files, and of the input, the output and the error stream
-- before and after
abbrev pub IsServed : (List ℕ → Option (List ℕ)) → Request → StreamState → StreamState → StreamState → StreamState → StreamState → StreamState → ℕ → Type 0
IsServed bytes_of request input_old input_new output_old output_new errors_old errors_new status =
    (result : Result Unit Fault)
    × IsRun bytes_of request input_old input_new output_old output_new result
    × ExitsWith result errors_old errors_new status
