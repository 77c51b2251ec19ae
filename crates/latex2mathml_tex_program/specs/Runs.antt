-- How a run of the program may end. The first state of a stream is what is known of it before, and the second what is
-- known after.
use Rattle.std.specs.Prelude.{◌≡◌, ℕ, Bool, true, false, List, Option, IfSome, Result, Ok, Err}
use Rattle.std.specs.Io.KnownBytes.{Keeps}
use Rattle.latex2mathml.specs.{Inputs.IsReadFault, Inputs.IsWholeText}
use Rattle.latex2mathml.specs.Streams.{CanGoOn, Gives, IsStopped, StreamState, Takes}
use Rattle.latex2mathml.specs.declared.error.FileFault.{FileFault}
use Rattle.latex2mathml_tex_units.specs.Errors.{refusal_of}
use Rattle.latex2mathml_tex_grammar.specs.{Macros.Table, Refusal.Refusal}
use Rattle.latex2mathml_tex_program.specs.Definitions.{Hold, IsRefusedFault, IsTextAsked, IsUnreadFault}
use Rattle.latex2mathml_tex_program.specs.Replies.{AreFormulas, AreReplies, IsLine, IsNoMarkup}
use Rattle.latex2mathml_tex_program.specs.declared.{fault.Fault.Fault, request.Format.Format, request.Request.Request}
use Rattle.latex2mathml_tex_program.specs.declared.fault.Fault.TheVariants.{File, Refused}

-- what is made of a text that holds many formulas, and of one that is a formula, under some macros
abbrev pub IsMadeOf : Table → Bool → List ℕ → Format → List ℕ → Type 0
IsMadeOf macros true text format product = (formulas : List (List ℕ)) × AreFormulas text formulas × AreReplies macros formulas format product
IsMadeOf macros false text format product = IsLine macros text format product

-- what is made of a text
abbrev pub IsMade : Table → Request → List ℕ → List ℕ → Type 0
IsMade macros request text product = IsMadeOf macros request.is_many text request.format product

-- why nothing is made of a text. Where it holds many formulas, a refusal of one of them is a reply.
abbrev pub IsNotMade : Table → Request → List ℕ → Refusal → Type 0
IsNotMade macros request text refusal = (request.is_many ≡ false) × IsNoMarkup macros text request.format refusal

-- how writing what is made of a text under these macros may end, by what is known of the output before and after
abbrev pub IsPut : Table → List ℕ → Request → StreamState → StreamState → Result Unit Fault → Type 0
IsPut macros text request old new (Ok _) =
    CanGoOn new × ((product : List ℕ) × IsMade macros request text product × Takes old new product)
IsPut macros text request old new (Err (File fault)) =
    (product : List ℕ) × IsMade macros request text product × IsStopped fault product old new
IsPut macros text request old new (Err (Refused error)) =
    IfSome (refusal_of error) (IsNotMade macros request text) × CanGoOn new × Keeps old.bytes new.bytes
IsPut macros text request old new (Err fault) = ⊥

-- how a run may end, by what is known of the bytes of files, and of the input and the output before and after it
pub data IsRun (bytes_of : List ℕ → Option (List ℕ)) (request : Request) (input_old input_new output_old output_new : StreamState) (result : Result Unit Fault) : Type 0 where
  -- the macros are those that the file of definitions defines, or the usual ones if no file is asked for
  converted : (definitions bytes : List ℕ) (macros : Table)
      → IsTextAsked bytes_of request.definitions definitions
      → Hold request.definitions definitions macros
      → Gives input_old input_new bytes
      → IsWholeText bytes input_new
      → IsPut macros bytes request output_old output_new result
      → IsRun bytes_of request input_old input_new output_old output_new result
  -- the macros are the same, but no text is read from the input: nothing is written
  unread : (definitions bytes : List ℕ) (macros : Table) (fault : FileFault)
      → IsTextAsked bytes_of request.definitions definitions
      → Hold request.definitions definitions macros
      → Gives input_old input_new bytes
      → IsReadFault bytes input_new fault
      → result ≡ Err (File fault)
      → output_new ≡ output_old
      → IsRun bytes_of request input_old input_new output_old output_new result
  -- no text is read from the file of definitions: nothing is read from the input either, and nothing is written
  unread_definitions : (fault : Fault)
      → IsUnreadFault bytes_of request.definitions fault
      → result ≡ Err fault
      → input_new ≡ input_old
      → output_new ≡ output_old
      → IsRun bytes_of request input_old input_new output_old output_new result
  -- the text of the file defines no macros: nothing is read from the input, and nothing is written
  undefined : (definitions : List ℕ) (fault : Fault)
      → IsTextAsked bytes_of request.definitions definitions
      → IsRefusedFault request.definitions definitions fault
      → result ≡ Err fault
      → input_new ≡ input_old
      → output_new ≡ output_old
      → IsRun bytes_of request input_old input_new output_old output_new result
