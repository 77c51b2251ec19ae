-- The outcome of a call from C, by the room that it is given and the texts that may result from its input.
use Rattle.std.specs.Prelude.{◌≡◌, ◌≢◌, ◌<◌, ◌≤◌, ◌⊎◌, ℕ, List, ◌++◌, Bool, true, false, drop, length}
use Rattle.latex2mathml.specs.Formulas.{DisplayStyle, Block, Inline}
use Rattle.latex2mathml_c.specs.declared.Status.{Status}
use Rattle.latex2mathml_c.specs.declared.Status.TheVariants.{Done, Refused, NotUtf8, TooSmall, OutOfMemory, DefinitionRefused, UnknownFlags}

-- how a formula is set: in a block of its own if the flag says so, and otherwise in a line of text
abbrev pub display_of : Bool → DisplayStyle
display_of true = Block
display_of false = Inline

-- the number of a status in C
abbrev pub code_of : Status → ℕ
code_of Done = 0
code_of Refused = 1
code_of NotUtf8 = 2
code_of TooSmall = 3
code_of OutOfMemory = 4
code_of DefinitionRefused = 5
code_of UnknownFlags = 6

-- The room.

-- the bytes of the room before a call and after it, and how many bytes the call said that its text needs
pub record Room : Type 0 where
  pub old : List ℕ
  pub new : List ℕ
  pub needed : ℕ

-- the text fits, and is at the start of the room; the rest of the room is unchanged
abbrev pub IsPut : List ℕ → Room → Type 0
IsPut text room = (room.needed ≡ length text) × (room.needed ≤ length room.old) × (room.new ≡ text ++ drop room.needed room.old)

-- the text needs more room, and nothing was written
abbrev pub IsLeftOut : List ℕ → Room → Type 0
IsLeftOut text room = (room.needed ≡ length text) × (length room.old < room.needed) × (room.new ≡ room.old)

-- a text with this status was written, or was left out and the status is `TooSmall`
abbrev pub IsPutOrTooSmall : Status → Status → List ℕ → Room → Type 0
IsPutOrTooSmall status result text room = ((result ≡ status) × IsPut text room) ⊎ ((result ≡ TooSmall) × IsLeftOut text room)

-- the texts that may result from an input, each with its status: the markup, or why there is none
abbrev pub Texts : Type 1
Texts = Status → List ℕ → Type 0

-- the outcome of a call: nothing is written if the room is too small or memory ran out, and otherwise the text is written
abbrev pub IsCallOutcome : Texts → Status → Room → Type 0
IsCallOutcome texts TooSmall room = (status : Status) × (text : List ℕ) × texts status text × IsLeftOut text room
IsCallOutcome texts OutOfMemory room = (room.needed ≡ 0) × (room.new ≡ room.old)
IsCallOutcome texts status room = (text : List ℕ) × texts status text × IsPut text room

-- Later calls.

-- each call with this input needs this many bytes: each call that does not run out of memory says so, and no call with that
-- much room finds it too small
pub record IsLength (texts : Texts) (bytes : ℕ) : Type 0 where
  pub said : (status : Status) (room : Room) → status ≢ OutOfMemory → IsCallOutcome texts status room → room.needed ≡ bytes
  pub fits : (room : Room) → bytes ≤ length room.old → ¬ IsCallOutcome texts TooSmall room
