-- How many steps a reading may take.
use Rattle.std.specs.Prelude.{ℕ, ◌*◌, ◌≤◌}
use Rattle.latex2mathml.specs.declared.Steps.{Steps}

-- the reading took at most `most` tokens, `most` frames at once, and nine times as many comparisons
pub record IsWithin (most : ℕ) (steps : Steps) : Type 0 where
  pub tokens : steps.tokens ≤ most
  pub frames : steps.frames ≤ most
  pub comparisons : steps.comparisons ≤ 9 * most
