-- What a run of the program makes of the bytes that it read, and how it may end.
use Rattle.std.specs.Prelude.{◌≡◌, ℕ, List, ◌++◌, Result, Ok, Err, String, codes, string_bytes}
use Rattle.std.specs.{Io.KnownBytes.Keeps, declared.alloc.Global.Global}
use Rattle.latex2mathml.specs.Conversions.{Conversion, IsConverted, formula, document}
use Rattle.latex2mathml.specs.Formulas as display
use Rattle.latex2mathml.specs.{Inputs.IsMissed, Inputs.IsWholeText, declared.error.FileFault.FileFault}
use Rattle.latex2mathml.specs.Streams.{CanGoOn, Gives, IsStopped, StreamState, Takes}
use Rattle.latex2mathml.specs.declared.error.FileFault.TheVariants.{Write}
use Rattle.latex2mathml_program.specs.declared.job.Job.{Job}
use Rattle.latex2mathml_program.specs.declared.job.Job.TheVariants.{Inline, Block, Document}

-- what the job converts its input as
abbrev pub conversion_of : Job → Conversion
conversion_of Inline = formula display.Inline
conversion_of Block = formula display.Block
conversion_of Document = document

-- what is written for the markup: that of a formula becomes a line, and that of a document is written as it is
abbrev pub printed : Conversion → List ℕ → List ℕ
printed (formula display) markup = markup ++ codes "\n"
printed document markup = markup

-- what is written for a text
abbrev pub IsProduct : Conversion → List ℕ → List ℕ → Type 0
IsProduct conversion text product =
    (markup : List ℕ) × IsConverted conversion text markup × (product ≡ printed conversion markup)

-- what was made of the bytes read, or why nothing was
abbrev pub IsMadeOf : Conversion → List ℕ → StreamState → Result (String Global) FileFault → Type 0
IsMadeOf conversion bytes state (Ok product) = IsWholeText bytes state × IsProduct conversion bytes (string_bytes product)
IsMadeOf conversion bytes state (Err fault) = IsMissed conversion bytes state fault

-- what was made of all that the input gave, or why nothing was
abbrev pub IsMade : Conversion → StreamState → StreamState → Result (String Global) FileFault → Type 0
IsMade conversion old new result =
    (bytes : List ℕ)
    × Gives old new bytes
    × IsMadeOf conversion bytes new result

-- how a run on these bytes may end, by what is known of the input after it, and of the output before and after it
abbrev pub IsRunOn : List ℕ → Conversion → StreamState → StreamState → StreamState → Result Unit FileFault → Type 0
IsRunOn bytes conversion input old new (Ok _) =
    IsWholeText bytes input
    × CanGoOn new
    × ((product : List ℕ) × IsProduct conversion bytes product × Takes old new product)
IsRunOn bytes conversion input old new (Err (Write written cause)) =
    IsWholeText bytes input
    × ((product : List ℕ) × IsProduct conversion bytes product × IsStopped (Write written cause) product old new)
IsRunOn bytes conversion input old new (Err fault) =
    IsMissed conversion bytes input fault
    × CanGoOn new
    × Keeps old.bytes new.bytes

-- how a run of the job may end, by what is known of the input and of the output before and after it
abbrev pub IsRun : Job → StreamState → StreamState → StreamState → StreamState → Result Unit FileFault → Type 0
IsRun job input_old input_new output_old output_new result =
    (bytes : List ℕ)
    × Gives input_old input_new bytes
    × IsRunOn bytes (conversion_of job) input_new output_old output_new result
