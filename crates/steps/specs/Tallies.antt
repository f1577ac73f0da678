-- Manual 4.10: the segments' totals since the laying, over the road; a step adds each segment's own off(y) and y.
use Rattle.std.specs.Prelude.{ℕ, List, get_or, replicate}
use Rattle.segment.specs.declared.tally.Tally.{Tally}
use Rattle.segment.specs.Tally.{no_tally, with_step}
use Rattle.conditions.specs.Conditions.{Conditions}
use Rattle.steps.specs.declared.State.{State}
use Rattle.steps.specs.Step.{next_cell, replaced}

-- a road just laid
abbrev pub fresh_tallies : List Tally
fresh_tallies = replicate 64 no_tally

-- the totals of segment i
abbrev pub tally_in : List Tally → ℕ → Tally
tally_in tallies i = get_or tallies i no_tally

module _ (c : Conditions) (state : State) (tallies : List Tally) where
  -- the totals of a segment after a step from the state
  abbrev pub next_tally : ℕ → Tally
  next_tally i = with_step (tally_in tallies i) (next_cell c state i)

  -- those of every segment
  unfoldable pub tallied : List Tally
  tallied = replaced next_tally c.segments tallies
