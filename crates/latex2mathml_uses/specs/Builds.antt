-- What a build leaves of a document, or why it leaves nothing.
use Rattle.std.specs.Prelude.{ℕ, List, IfSome, IsUtf8, string_bytes, ⊤}
use Rattle.latex2mathml.specs.{Documents.IsRefusal, declared.error.FileFault.FileFault}
use Rattle.latex2mathml.specs.declared.error.FileFault.TheVariants.{NotText, Read, Refused}
use Rattle.latex2mathml.specs.declared.input.Reading.{Reading}
use Rattle.latex2mathml.specs.declared.input.Reading.TheVariants.{Changed, Unchanged}
use Rattle.latex2mathml.specs.Formulas.{refusal_of}

-- why a build leaves nothing; if the fault reports a refusal, it is that of the document
abbrev pub IsFaultOf : List ℕ → FileFault → Type 0
IsFaultOf document Read = ⊤
IsFaultOf document NotText = ¬ IsUtf8 document
IsFaultOf document (Refused error) = IfSome (refusal_of error) (IsRefusal document)
IsFaultOf document _ = ⊥

abbrev pub page_text : Reading → List ℕ
page_text (Changed answer) = string_bytes answer
page_text (Unchanged page) = string_bytes page
