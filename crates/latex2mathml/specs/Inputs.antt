-- What is made of the bytes that a source gave. `state` is what is known of the source afterwards.
use Rattle.std.specs.Prelude.{◌≡◌, ◌≢◌, ℕ, List, None, Result, Ok, Err, IfSome, IsFalse, IsTrue, IsUtf8, string_bytes, ⊤}
use Rattle.latex2mathml.specs.Conversions.{Conversion, document, IsConverted, IsRefusedAs}
use Rattle.latex2mathml.specs.{Documents.IsAnswer, Streams.StreamState, Streams.HasEnded, declared.error.FileFault.FileFault}
use Rattle.latex2mathml_grammar.specs.Dollars.{IsDollarFree}
use Rattle.latex2mathml_tokens.specs.{Refusal.refusal_of, declared.error.LatexError.LatexError}
use Rattle.latex2mathml.specs.declared.error.FileFault.TheVariants.{Read, NotText, Refused}
use Rattle.latex2mathml.specs.declared.input.Reading.{Reading}
use Rattle.latex2mathml.specs.declared.input.Reading.TheVariants.{Changed, Unchanged}

-- the bytes are all that the source gives, and are a text
pub record IsWholeText (bytes : List ℕ) (state : StreamState) : Type 0 where
  pub is_unfailed : IsFalse state.failed
  pub is_ended : IsTrue state.ended
  pub is_text : IsUtf8 bytes

-- the source failed, its bytes are not text, or there is an error of this kind
abbrev pub IsFault : (LatexError → Type 0) → List ℕ → StreamState → FileFault → Type 0
IsFault IsError bytes state Read = IsTrue state.failed
IsFault IsError bytes state NotText = HasEnded state × (¬ IsUtf8 bytes)
IsFault IsError bytes state (Refused error) = IsFalse state.failed × IsError error
IsFault IsError bytes state _ = ⊥

-- why no text was read; the only error is that memory ran out
abbrev pub IsReadFault : List ℕ → StreamState → FileFault → Type 0
IsReadFault = IsFault (λ error. refusal_of error ≡ None)

-- why the bytes were not converted; if memory runs out, that may take the place of anything else
abbrev pub IsMissed : Conversion → List ℕ → StreamState → FileFault → Type 0
IsMissed conversion bytes state =
    IsFault (λ error. IfSome (refusal_of error) (λ refusal. IsWholeText bytes state × IsRefusedAs conversion bytes refusal)) bytes state

-- the fault reports no refusal
abbrev pub IsNoRefusal : FileFault → Type 0
IsNoRefusal (Refused error) = refusal_of error ≡ None
IsNoRefusal fault = ⊤

-- the result of reading a document: unchanged exactly where the text holds no dollar sign
abbrev pub IsReadingOf : List ℕ → StreamState → Result Reading FileFault → Type 0
IsReadingOf bytes state (Ok (Changed answer)) =
    IsWholeText bytes state
    × (¬ IsDollarFree bytes)
    × IsConverted document bytes (string_bytes answer)
    × (string_bytes answer ≢ bytes)
IsReadingOf bytes state (Ok (Unchanged text)) =
    IsWholeText bytes state
    × IsDollarFree bytes
    × IsAnswer bytes bytes
    × (string_bytes text ≡ bytes)
IsReadingOf bytes state (Err fault) = IsMissed document bytes state fault × (IsDollarFree bytes → IsNoRefusal fault)
