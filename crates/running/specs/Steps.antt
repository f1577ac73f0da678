-- Manual 6.4, run k steps, with the sums of 4.10: what a facility is after a step, and after k of them.
use Rattle.std.specs.Prelude.{ℕ, zero, suc, ◌+◌, ◌-◌, List}
use Rattle.conditions.specs.Conditions.{Conditions, SheetInForce, None, Under, conditions_of}
use Rattle.steps.specs.Step.{stepped, arrived_of, left_of}
use Rattle.steps.specs.Tallies.{tallied}
use Rattle.steps.specs.Driven.{driven}
use Rattle.door.specs.declared.Facility.{Facility}

-- the sheet in force, by the number of sheets taken
abbrev pub sheet_by : ℕ → List ℕ → SheetInForce
sheet_by zero period = None
sheet_by (suc n) period = Under period

-- what is in force
abbrev pub conditions_on : Facility → Conditions
conditions_on f = conditions_of f.road (sheet_by f.taken f.period)

-- one step under the sheet in force: each segment's off(y) and y are added to its totals, its y × L to its part-feet, arrived and left to the
-- two sums, then the first of these less the second to part-steps
unfoldable pub step_of : Facility → Facility
step_of f =
    let c = conditions_on f in
    let next = stepped c f.state in
    let arrived = f.arrived + arrived_of c in
    let left = f.left + left_of c.segments next in
    record {
      road = f.road;
      period = f.period;
      taken = f.taken;
      made = f.made + 1;
      state = next;
      tallies = tallied c f.state f.tallies;
      partfeet = driven c next f.partfeet;
      arrived = arrived;
      left = left;
      partsteps = f.partsteps + (arrived - left);
    }

-- k steps, each from the facility that the one before left
unfoldable pub steps_of : ℕ → Facility → Facility
steps_of zero f = f
steps_of (suc k) f = step_of (steps_of k f)
