-- What the arguments ask for, and the lines and the status that answer them. The words are the arguments.
use Rattle.std.specs.Prelude.{◌≡◌, ◌⊎◌, ℕ, List, [], ◌∷◌, ◌++◌, Option, Result, Ok, Err, codes, map, string_bytes}
use Rattle.std.specs.Io.KnownBytes.{Keeps}
use Rattle.latex2mathml.specs.{Faults.fault_text, Files.Answer, Files.IsWhollyWalked, declared.error.FileFault.FileFault}
use Rattle.latex2mathml.specs.Streams.{CanGoOn, IsStopped, StreamState, Takes}
use Rattle.latex2mathml.specs.declared.error.FileFault.TheVariants.{Refused, Write}
use Rattle.latex2mathml.specs.{declared.error.WriteCause.WriteCause, declared.files.Unconverted.Unconverted, Formulas.OutOfMemory}
use Rattle.latex2mathml_program.specs.{Run.IsRun, declared.job.Job.Job}
use Rattle.latex2mathml_program.specs.declared.job.Job.TheVariants.{Inline, Block, Document}

-- the word that names a job
abbrev pub word_of : Job → List ℕ
word_of Inline = codes "inline"
word_of Block = codes "block"
word_of Document = codes "document"

-- the words ask for the job: they are its word and no other
abbrev pub AskFor : Job → List (List ℕ) → Type 0
AskFor job words = words ≡ word_of job ∷ []

-- the words ask for no job
abbrev pub AskForNoJob : List (List ℕ) → Type 0
AskForNoJob words = (job : Job) → ¬ AskFor job words

-- the words ask for the files under the path: they are the word `html`, the path and no other
abbrev pub AskForFiles : List ℕ → List (List ℕ) → Type 0
AskForFiles path words = words ≡ codes "html" ∷ path ∷ []

-- the words ask for no files
abbrev pub AskForNoFiles : List (List ℕ) → Type 0
AskForNoFiles words = (path : List ℕ) → ¬ AskForFiles path words

-- the words ask for nothing
abbrev pub AreWrong : List (List ℕ) → Type 0
AreWrong words = AskForNoJob words × AskForNoFiles words

-- the line that reports a fault
abbrev pub fault_line : FileFault → List ℕ
fault_line fault = codes "LaTeX2MathML Error: " ++ (fault_text fault ++ codes "\n")

-- the line that says why a file or a directory was not converted
abbrev pub unconverted_line : Unconverted → List ℕ
unconverted_line unconverted =
    codes "LaTeX2MathML Error: " ++ (string_bytes unconverted.path ++ (codes ": " ++ (fault_text unconverted.fault ++ codes "\n")))

-- In what follows, the first state is what is known of the error stream before, and the second what is known after.

-- the stream took nothing
abbrev pub IsSilent : StreamState → StreamState → Type 0
IsSilent old new = CanGoOn new × Keeps old.bytes new.bytes

-- how writing a line to a stream may end, where the line is at hand
pub data LineWritten (line : List ℕ) (old new : StreamState) : Type 0 where
  -- the stream took the line
  Whole : CanGoOn new
      → Takes old new line
      → LineWritten line old new
  -- the stream took the first bytes of the line, and failed or took no more
  Stopped : (written : ℕ) (cause : WriteCause)
      → IsStopped (Write written cause) line old new
      → LineWritten line old new

-- how writing a line to a stream may end, where memory is needed for the line
pub data LinePrinted (line : List ℕ) (old new : StreamState) : Type 0 where
  -- memory was found
  Found : LineWritten line old new → LinePrinted line old new
  -- no memory was found for the line
  LeftOut : IsSilent old new → LinePrinted line old new

-- the text is the lines in their order, some of them left out
abbrev pub JoinsSomeOf : List (List ℕ) → List ℕ → Type 0
JoinsSomeOf [] text = text ≡ []
JoinsSomeOf (line ∷ lines) text =
    JoinsSomeOf lines text
    ⊎ ((rest : List ℕ) × (text ≡ line ++ rest) × JoinsSomeOf lines rest)

-- how writing lines to a stream may end
pub data LinesPrinted (lines : List (List ℕ)) (old new : StreamState) : Type 0 where
  -- the stream took each line for which memory was found
  AllPut : CanGoOn new
      → (text : List ℕ)
      → JoinsSomeOf lines text
      → Takes old new text
      → LinesPrinted lines old new
  -- the stream took the lines before one of them, some left out, then the first bytes of that one, and failed or took no more
  StoppedAt : (before : List (List ℕ)) (line : List ℕ) (after : List (List ℕ))
      → lines ≡ before ++ (line ∷ after)
      → (text : List ℕ) (middle : StreamState)
      → JoinsSomeOf before text
      → Takes old middle text
      → (written : ℕ) (cause : WriteCause)
      → IsStopped (Write written cause) line middle new
      → LinesPrinted lines old new

-- the status of a run that is done, of one that is not, and of wrong words
abbrev pub done : ℕ
done = 0

abbrev pub not_done : ℕ
not_done = 1

abbrev pub wrong_words : ℕ
wrong_words = 2

-- the line of what was not converted
abbrev pub UnconvertedPrinted : Unconverted → StreamState → StreamState → Type 0
UnconvertedPrinted one old new = LinePrinted (unconverted_line one) old new

-- the lines of all these that were not converted
abbrev pub AllUnconvertedPrinted : List Unconverted → StreamState → StreamState → Type 0
AllUnconvertedPrinted all old new = LinesPrinted (map unconverted_line all) old new

-- the status and the error stream report the result of a run
abbrev pub ExitsWith : Result Unit FileFault → StreamState → StreamState → ℕ → Type 0
ExitsWith (Ok _) old new status = (status ≡ done) × IsSilent old new
ExitsWith (Err fault) old new status = (status ≡ not_done) × LinePrinted (fault_line fault) old new

-- the status and the error stream report what was not converted
abbrev pub ExitsWithLines : List Unconverted → StreamState → StreamState → ℕ → Type 0
ExitsWithLines [] old new status = (status ≡ done) × IsSilent old new
ExitsWithLines (one ∷ more) old new status = (status ≡ not_done) × AllUnconvertedPrinted (one ∷ more) old new

-- the status and the error stream report the result of converting the files under a path, by what the site answered
pub data ExitsAfterWalk (path : List ℕ) (before after : Option (List Answer)) (old new : StreamState) (status : ℕ) : Type 0 where
  -- the files were walked, and these were not converted
  WalkEnded : (unconverted : List Unconverted)
      → IsWhollyWalked path before after unconverted
      → ExitsWithLines unconverted old new status
      → ExitsAfterWalk path before after old new status
  -- memory ran out during the walk
  NoMemory : status ≡ not_done
      → LineWritten (fault_line (Refused OutOfMemory)) old new
      → ExitsAfterWalk path before after old new status

-- how serving the words may end, by what the site answered before and after, and by what is known of the input, the output
-- and the error stream before and after
pub data IsServed (words : List (List ℕ)) (before after : Option (List Answer)) (input_old input_new output_old output_new errors_old errors_new : StreamState) (status : ℕ) : Type 0 where
  -- The words are wrong. A line was written. Which one is not said, since the contract of a derived `Display` gives no text.
  WrongWords : AreWrong words
      → status ≡ wrong_words
      → after ≡ before
      → (usage : List ℕ)
      → LinePrinted usage errors_old errors_new
      → IsServed words before after input_old input_new output_old output_new errors_old errors_new status
  -- the job that the words ask for was run
  Ran : (job : Job)
      → AskFor job words
      → after ≡ before
      → (result : Result Unit FileFault)
      → IsRun job input_old input_new output_old output_new result
      → ExitsWith result errors_old errors_new status
      → IsServed words before after input_old input_new output_old output_new errors_old errors_new status
  -- the files under the path that the words name were converted
  Walked : (path : List ℕ)
      → AskForFiles path words
      → ExitsAfterWalk path before after errors_old errors_new status
      → IsServed words before after input_old input_new output_old output_new errors_old errors_new status
