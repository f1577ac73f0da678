-- What the code adds for the steps of a run at once: no rule of the manual. `running` shows that it is what the steps add one by one.
use Rattle.std.specs.Prelude.{ℕ, ◌+◌, ◌-◌, ◌*◌, List}
use Rattle.segment.specs.declared.tally.Tally.{Tally}
use Rattle.conditions.specs.Conditions.{Conditions, in_force_at}
use Rattle.steps.specs.Step.{replaced}
use Rattle.steps.specs.Tallies.{tally_in}
use Rattle.steps.specs.Driven.{partfeet_in}

module _ (c : Conditions) (before now : List Tally) where
  -- at a segment: all that left it since its totals were those of before, × L
  unfoldable pub gained_at : ℕ → ℕ
  gained_at i = ((tally_in now i).out - (tally_in before i).out) * (in_force_at c i).length

  -- the part-feet of every segment with it
  unfoldable pub driven_since : List ℕ → List ℕ
  driven_since partfeet = replaced (λ i. partfeet_in partfeet i + gained_at i) c.segments partfeet
