-- What a segment holds, and has let out, at most after so many steps, so that the step's arithmetic fits: no rule of the manual.
use Rattle.std.specs.Prelude.{ℕ, ◌*◌, ◌≤◌, ◌<◌}
use Rattle.segment.specs.declared.Cell.{Cell}
use Rattle.segment.specs.declared.tally.Tally.{Tally}

-- a segment, its ramp's queue and its remainder after t steps; 2,880,000 is the largest J
pub record BoundedCell (t : ℕ) (cell : Cell) : Type 0 where
  pub parts : cell.n ≤ 2880000
  pub queue : cell.q ≤ 10000 * t
  pub remainder : cell.remainder < 1000

-- a segment's totals after t steps; 10,000 is the largest F, 20,000 the largest C
pub record BoundedTally (t : ℕ) (tally : Tally) : Type 0 where
  pub off : tally.off ≤ 10000 * t
  pub out : tally.out ≤ 20000 * t
