-- Lengths that are passed on.
use mir.Val.{SFits}
use Rattle.std.proofs.Common.{◌≡◌, ℤ, arith, of_z, to_z, w32}
use Rattle.std.proofs.lemmas.Int.{ints}

-- a length stays the same when it is passed on
pub kept : (n : ℤ) → SFits w32 n → to_z w32 (of_z w32 n) ≡ n
kept n fits = omega (arith, ints, fits)
