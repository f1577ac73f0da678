-- What a step adds to a segment's totals keeps the off-ramp's to the part.
use Prim.Native.Nat.{ℕ, ◌+◌, ◌*◌}
use mathlib.Core.Path.{◌≡◌}
use native.Mathlib.Omega.{arith}
use Rattle.segment.specs.declared.Cell.{Cell}
use Rattle.segment.specs.declared.tally.Tally.{Tally}
use Rattle.segment.specs.Tally.{with_step}

module _ (share start : ℕ) (tally : Tally) (before after : Cell) where
  -- from the step's own law: the total with the remainder is the share of all that left, with the remainder at the start
  pub still_shared :
      after.off * 1000 + after.remainder ≡ after.out * share + before.remainder
      → tally.off * 1000 + before.remainder ≡ tally.out * share + start
      → (with_step tally after).off * 1000 + after.remainder ≡ (with_step tally after).out * share + start
  unfolding with_step
  still_shared step so_far = omega (arith, step, so_far)
