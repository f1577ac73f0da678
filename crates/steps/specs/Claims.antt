-- Manual 8.2: the claims on one step, from its conditions and the states before and after; the flows are those that the state after tells,
-- capacity, jam and share those in force in the step.
use Rattle.std.specs.Prelude.{ℕ, zero, suc, ◌+◌, ◌*◌, ◌≤◌, ◌<◌, min, ◌≡◌, ltb, if◌then◌else◌}
use Rattle.steps.specs.declared.State.{State}
use Rattle.conditions.specs.Conditions.{Conditions, in_force_at}
use Rattle.steps.specs.Step.{cell_in, main_wish_at, ramp_wish_at, supply_at, arrived_of, left_of, stored_of}

-- what entered by the mainline at a node in the step that led to the state, the exit included
unfoldable pub entered_at : (segments : ℕ) → State → ℕ → ℕ
entered_at ns state i = if ltb i ns then (cell_in state i).main else state.exit

pub record Holds (c : Conditions) (before after : State) : Type 0 where
  -- each segment takes in at most its capacity, and lets out at most its capacity
  pub takes_in : (i : ℕ) → i < c.segments → (cell_in after i).main + (cell_in after i).ramp ≤ (in_force_at c i).capacity
  pub lets_out : (i : ℕ) → i < c.segments → (cell_in after i).out ≤ (in_force_at c i).capacity
  -- above its jam it takes nothing in, and holds no more after the step than before; at or below, it holds at most its jam after
  pub above_jam : (i : ℕ) → i < c.segments → (in_force_at c i).jam < (cell_in before i).n
      → ((cell_in after i).main + (cell_in after i).ramp ≡ 0) × ((cell_in after i).n ≤ (cell_in before i).n)
  pub within_jam : (i : ℕ) → i < c.segments → (cell_in before i).n ≤ (in_force_at c i).jam → (cell_in after i).n ≤ (in_force_at c i).jam
  -- its inflow is exactly the smaller of what wished to enter and what it could take; at the exit, of M and X
  pub inflow : (i : ℕ) → i < c.segments
      → (cell_in after i).main + (cell_in after i).ramp ≡ min (main_wish_at c before i + ramp_wish_at c before i) (supply_at c before i)
  pub exit : after.exit ≡ min (main_wish_at c before c.segments) c.outlet
  -- what it lets out left by the off-ramp or entered at the node ahead, so a vehicle is in one segment
  pub passed_on : (i : ℕ) → i < c.segments → (cell_in after i).off + entered_at c.segments after (suc i) ≡ (cell_in after i).out
  -- and only these flows change what is there
  pub parts : (i : ℕ) → i < c.segments → (cell_in after i).n + (cell_in after i).out ≡ (cell_in before i).n + (cell_in after i).main + (cell_in after i).ramp
  pub queues : (i : ℕ) → i < c.segments → (cell_in after i).q + (cell_in after i).ramp ≡ (cell_in before i).q + (in_force_at c i).demand
  pub origin : after.origin + entered_at c.segments after zero ≡ before.origin + c.demand
  -- by the off-ramp leaves its share of what the segment lets out, to the part; what is less than a part is carried to the next step
  pub off_share : (i : ℕ) → i < c.segments
      → (cell_in after i).off * 1000 + (cell_in after i).remainder ≡ (cell_in after i).out * (in_force_at c i).share + (cell_in before i).remainder
  pub remainder : (i : ℕ) → i < c.segments → (cell_in after i).remainder < 1000
  -- nothing is lost
  pub balanced : stored_of c.segments after + left_of c.segments after ≡ stored_of c.segments before + arrived_of c
