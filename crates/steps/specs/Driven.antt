-- Manual 2.2 and 4.10, vehicle-miles in part-feet (240 × 5,280 to one): those of each segment since the laying, over the road; a step adds each
-- segment's own y × L.
use Rattle.std.specs.Prelude.{ℕ, ◌+◌, ◌*◌, List, get_or, replicate}
use Rattle.conditions.specs.Conditions.{Conditions, in_force_at}
use Rattle.steps.specs.declared.State.{State}
use Rattle.steps.specs.Step.{cell_in, replaced, sum_to}

-- a road just laid
abbrev pub no_partfeet : List ℕ
no_partfeet = replicate 64 0

-- the part-feet of segment i
abbrev pub partfeet_in : List ℕ → ℕ → ℕ
partfeet_in partfeet i = get_or partfeet i 0

-- the facility's: the sum over its segments
unfoldable pub partfeet_of : (segments : ℕ) → List ℕ → ℕ
partfeet_of ns partfeet = sum_to (partfeet_in partfeet) ns

module _ (c : Conditions) (after : State) where
  -- y(i) × L at a segment in the step that led to the state, by the length in the step's conditions
  unfoldable pub driven_at : ℕ → ℕ
  driven_at i = (cell_in after i).out * (in_force_at c i).length

  -- over all segments: what the step adds to the facility's
  unfoldable pub driven_of : ℕ
  driven_of = sum_to driven_at c.segments

  -- the part-feet of every segment after the step
  unfoldable pub driven : List ℕ → List ℕ
  driven partfeet = replaced (λ i. partfeet_in partfeet i + driven_at i) c.segments partfeet
