-- What is known of a source or a sink, how a call of either may end, and how writing may stop.
use Rattle.std.specs.Prelude.{ℕ, ◌<◌, ◌==◌, ◌&&◌, nat_lt, List, Bool, false, Option, None, Some, length, take, IsFalse, IsTrue}
use Rattle.std.specs.Io.KnownBytes.{Appends, Consumes}
use Rattle.latex2mathml.specs.{declared.error.FileFault.FileFault, declared.error.FileFault.TheVariants.Write}
use Rattle.latex2mathml.specs.declared.error.WriteCause.{WriteCause}
use Rattle.latex2mathml.specs.declared.error.WriteCause.TheVariants.{Failed, TookNothing}

-- the call moved no byte, though the given number was due and is not zero
abbrev pub meets_end : Option ℕ → ℕ → Bool
meets_end None due = false
meets_end (Some moved) due = (moved == 0) && nat_lt 0 due

-- what is known of a source or a sink between two calls
pub record StreamState : Type 0 where
  -- the bytes that the source gives from here on, or that the sink took, where they are known
  pub bytes : Option (List ℕ)
  -- whether a call has answered `None`
  pub failed : Bool
  -- whether a call has moved no byte, though some were due
  pub ended : Bool

-- it has neither failed nor ended, and may be called
abbrev pub CanGoOn : StreamState → Type 0
CanGoOn state = IsFalse state.failed × IsFalse state.ended

-- it has not failed, and has ended: everything was moved
abbrev pub HasEnded : StreamState → Type 0
HasEnded state = IsFalse state.failed × IsTrue state.ended

-- between the two states the source gave these bytes
abbrev pub Gives : StreamState → StreamState → List ℕ → Type 0
Gives old new bytes = Consumes old.bytes new.bytes bytes

-- between the two states the source gave these bytes and ended
abbrev pub GivesAll : StreamState → StreamState → List ℕ → Type 0
GivesAll old new bytes = Gives old new bytes × HasEnded new

-- between the two states the sink took these bytes
abbrev pub Takes : StreamState → StreamState → List ℕ → Type 0
Takes old new bytes = Appends old.bytes new.bytes bytes

-- the state shows this cause, and not the other
abbrev pub IsCause : WriteCause → StreamState → Type 0
IsCause Failed state = IsTrue state.failed × IsFalse state.ended
IsCause TookNothing state = HasEnded state

-- the sink took only the first bytes of the text, as many as the fault says and not all of them
abbrev pub IsStopped : FileFault → List ℕ → StreamState → StreamState → Type 0
IsStopped (Write written cause) text old new =
    (written < length text)
    × Takes old new (take written text)
    × IsCause cause new
IsStopped _ text old new = ⊥
