-- The length of a formula bounds the steps of its reading.
use Rattle.std.proofs.Common.{ℕ, ◌≤◌, List, arith, length, take}
use Rattle.std.proofs.Math.Nat.{min-le_left}
use Rattle.std.proofs.lemmas.{List.length-take, List.Sums.count_by-le-length}
use Rattle.std.specs.Str.{chars}
use Rattle.latex2mathml.specs.Counting.{IsComparisonCount, IsFrameCount, backslashes}
use Rattle.latex2mathml.specs.declared.Steps.{Steps}
use Rattle.latex2mathml_uses.specs.Budgets.{IsWithin}

pub within : (text : List ℕ) (most : ℕ) (steps : Steps) → length text ≤ most → steps.tokens ≤ length text → IsComparisonCount (chars text) steps.tokens steps.comparisons → IsFrameCount (chars text) steps.tokens steps.frames → IsWithin most steps
within text most steps fits tokens (slices, cut, least, bound) (frames, openers) =
    let taken = take steps.tokens slices in
    let counted : backslashes taken ≤ length taken = count_by-le-length _ taken in
    record {
      tokens = omega arith;
      frames = omega arith;
      comparisons = omega (arith, bound, counted, length-take steps.tokens slices, min-le_left steps.tokens (length slices));
    }
