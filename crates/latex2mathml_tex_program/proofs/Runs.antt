-- The result of a run that stops because of its definitions.
use Rattle.std.proofs.Common.{◌≡◌, ℕ, List, Option, Result, Ok, Err, refl, sym, subst}
use Rattle.std.specs.Prelude.{IsErrAnd}
use Rattle.latex2mathml.specs.Streams.{StreamState}
use Rattle.latex2mathml_tex_program.specs.Definitions.{IsRefusedFault, IsTextAsked, IsUnreadFault}
use Rattle.latex2mathml_tex_program.specs.Runs.{IsRun, undefined, unread_definitions}
use Rattle.latex2mathml_tex_program.specs.declared.{fault.Fault.Fault, request.Request.Request}

-- a `?` passes on that no text was read from the file of definitions
pub unread_passed : (bytes_of : List ℕ → Option (List ℕ)) (request : Request) (input output : StreamState) (fault : Fault)
    (result : Result Unit Fault) → IsErrAnd result (λ e. e ≡ fault)
    → IsUnreadFault bytes_of request.definitions fault
    → IsRun bytes_of request input input output output result
unread_passed bytes_of request input output fault (Ok done) passed is = elim passed [ ]
unread_passed bytes_of request input output fault (Err e) passed is =
    unread_definitions e (subst (IsUnreadFault bytes_of request.definitions) (sym passed) is) refl refl refl

-- a `?` passes on that the text of definitions is refused
pub undefined_passed : (bytes_of : List ℕ → Option (List ℕ)) (request : Request) (input output : StreamState) (fault : Fault)
    (definitions text : List ℕ) (result : Result Unit Fault) → IsErrAnd result (λ e. e ≡ fault)
    → IsTextAsked bytes_of request.definitions definitions
    → text ≡ definitions
    → IsRefusedFault request.definitions text fault
    → IsRun bytes_of request input input output output result
undefined_passed bytes_of request input output fault definitions text (Ok done) passed asked same is = elim passed [ ]
undefined_passed bytes_of request input output fault definitions text (Err e) passed asked same is =
    undefined definitions e asked (subst (IsRefusedFault request.definitions definitions) (sym passed)
    (subst (λ t. IsRefusedFault request.definitions t fault) same is)) refl refl refl
