-- The result of reading a file of the system.
use Rattle.std.proofs.Common.{ℕ, List, Option, Result, Ok, Err, None}
use Rattle.std.specs.{Io.KnownBytes.Consumes, Prelude.IfErr}
use Rattle.latex2mathml.specs.declared.error.FileFault.{FileFault}
use Rattle.latex2mathml.specs.declared.error.FileFault.TheVariants.{List as Unlisted, Entry, TooDeep, Read, NotText, Refused, Create, Write}
use Rattle.latex2mathml.specs.{Inputs.IsReadFault, Streams.StreamState}
use Rattle.latex2mathml_tex_program.specs.Definitions.{IsUnread}

-- the fault of a source if the bytes of the file are not known
unread_source : (bytes : List ℕ) (state : StreamState) (fault : FileFault) → IsReadFault bytes state fault → IsUnread None fault
unread_source bytes state Read is = tt
unread_source bytes state NotText is = (bytes, tt, is.1)
unread_source bytes state (Refused error) is = is.1
unread_source bytes state Unlisted is = absurd is
unread_source bytes state Entry is = absurd is
unread_source bytes state TooDeep is = absurd is
unread_source bytes state Create is = absurd is
unread_source bytes state (Write written cause) is = absurd is

pub unread_file : {A : Type 0} (before : Option (List ℕ)) (state : StreamState) (result : Result A FileFault)
    → IfErr result (λ fault. (bytes : List ℕ) × Consumes before state.bytes bytes × IsReadFault bytes state fault)
    → IfErr result (IsUnread None)
unread_file before state (Ok text) is = is
unread_file before state (Err fault) is = unread_source is.0 state fault is.2
