-- What a state, the totals and the part-feet hold at most after so many steps, so that the step's arithmetic fits: no rule of the manual.
use Rattle.std.specs.Prelude.{ℕ, ◌*◌, ◌≤◌, ◌<◌, List}
use Rattle.steps.specs.declared.State.{State}
use Rattle.steps.specs.Step.{cell_in}
use Rattle.steps.specs.Tallies.{tally_in}
use Rattle.steps.specs.Driven.{partfeet_in}
use Rattle.segment.specs.declared.tally.Tally.{Tally}
use Rattle.segment.specs.Bounded.{BoundedCell, BoundedTally}

-- a state after t steps
pub record Bounded (segments t : ℕ) (state : State) : Type 0 where
  pub cells : (i : ℕ) → i < segments → BoundedCell t (cell_in state i)
  pub origin : state.origin ≤ 20000 * t

-- the segments' totals after t steps
abbrev pub BoundedTallies : (segments t : ℕ) → List Tally → Type 0
BoundedTallies ns t tallies = (i : ℕ) → i < ns → BoundedTally t (tally_in tallies i)

-- the segments' part-feet after t steps; 528,000,000 = 20,000 × 26,400 is the largest C × L
abbrev pub BoundedPartfeet : (segments t : ℕ) → List ℕ → Type 0
BoundedPartfeet ns t partfeet = (i : ℕ) → i < ns → partfeet_in partfeet i ≤ 528000000 * t
