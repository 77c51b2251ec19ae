-- What a writer took of a text that was not written completely.
use Rattle.std.specs.Prelude.{ℕ, ◌<◌, List, Option, length, take}
use Rattle.std.specs.Io.KnownBytes.{Appends}
use Rattle.latex2mathml.specs.{declared.error.FileFault.FileFault, declared.error.FileFault.TheVariants.Write}

-- the writer took the first bytes of the text, as many as the fault says and not all of them
abbrev pub TakesStart : FileFault → List ℕ → Option (List ℕ) → Option (List ℕ) → Type 0
TakesStart (Write written cause) text old new = (written < length text) × Appends old new (take written text)
TakesStart _ text old new = ⊥
