-- Where the bytes read were not converted, the output was not called.
use Rattle.std.proofs.Common.{◌≡◌, ℕ, List, Result, Ok, Err, sym, subst}
use Rattle.std.proofs.KnownBytes.{Keeps-refl}
use Rattle.std.specs.{Io.KnownBytes.Keeps, Prelude.IsErrAnd}
use Rattle.latex2mathml.specs.{Conversions.Conversion, Inputs.IsMissed, Streams.CanGoOn, Streams.StreamState}
use Rattle.latex2mathml.specs.declared.error.FileFault.{FileFault}
use Rattle.latex2mathml.specs.declared.error.FileFault.TheVariants.{List as Unlisted, Entry, TooDeep, Read, NotText, Refused, Create, Write}
use Rattle.latex2mathml_program.specs.Run.{IsRunOn}

missed : (conversion : Conversion) (bytes : List ℕ) (input old new : StreamState) (fault : FileFault)
    → IsMissed conversion bytes input fault → CanGoOn new → Keeps old.bytes new.bytes
    → IsRunOn bytes conversion input old new (Err fault)
missed conversion bytes input old new Read is ready keeps = (is, ready, keeps)
missed conversion bytes input old new NotText is ready keeps = (is, ready, keeps)
missed conversion bytes input old new (Refused error) is ready keeps = (is, ready, keeps)
missed conversion bytes input old new (Write written cause) is ready keeps = absurd is
missed conversion bytes input old new Unlisted is ready keeps = absurd is
missed conversion bytes input old new Entry is ready keeps = absurd is
missed conversion bytes input old new TooDeep is ready keeps = absurd is
missed conversion bytes input old new Create is ready keeps = absurd is

-- the same holds for the fault that a `?` passes on
pub missed_by : (conversion : Conversion) (bytes : List ℕ) (input output : StreamState) (fault : FileFault)
    (result : Result Unit FileFault) → IsErrAnd result (λ e. e ≡ fault)
    → IsMissed conversion bytes input fault → CanGoOn output
    → IsRunOn bytes conversion input output output result
missed_by conversion bytes input output fault (Ok done) h is ready = elim h [ ]
missed_by conversion bytes input output fault (Err e) h is ready =
    missed conversion bytes input output output e (subst (IsMissed conversion bytes input) (sym h) is) ready (Keeps-refl output.bytes)
