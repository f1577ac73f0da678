-- The laws of one step along the road.
use Prim.Native.Nat.{ℕ, zero, suc, ◌+◌, ◌≤◌, ◌<◌, min, max}
use mathlib.Core.Bool.{Bool, true, false}
use mathlib.Core.Path.{◌≡◌}
use native.Mathlib.Omega.{arith}
use lib.ListN.{length}
use lib.Dec.{ltb}
use borrow.Author.Tests.{lt-ltb, le-ltb}
use Rattle.std.specs.Prelude.{if◌then◌else◌}
use Rattle.steps.specs.declared.State.{State}
use Rattle.rules.specs.Rules.{off, through}
use Rattle.conditions.specs.Conditions.{Conditions, in_force_at}
use Rattle.segment.specs.Place.{split_of}
use Rattle.steps.specs.Step.{no_cell, cell_in, main_wish_at, flow_at, main_flow_at, leaving_at, next_cell, stepped}
use Rattle.rules.specs.Good.{GoodSplit}
use Rattle.conditions.specs.Good.{GoodConditions}
use Rattle.steps.specs.Bounded.{Bounded}
use Rattle.steps.proofs.Sums.{length_replaced, replaced_at}
use Rattle.segment.proofs.Laws.{good_split, main_wished, none_let_in, goes_on, all_go, held_most, ramp_queue}

-- ---- along the road
pub split_at : (c : Conditions) (state : State) {t : ℕ} → GoodConditions c → Bounded c.segments t state → (i : ℕ) → i < c.segments
    → GoodSplit (split_of (in_force_at c i) (cell_in state i))
split_at c state good bounded i h = good_split _ _ (good.place i h) (bounded.cells i h)

module _ (c : Conditions) (state : State) where
  pub main_flow_at_lem : (i : ℕ) → i < c.segments → main_flow_at c state i ≡ (flow_at c state i).main
  unfolding main_flow_at
  main_flow_at_lem i h = rw (lt-ltb i c.segments h)

  -- at the exit, the smaller of M and X
  pub exit_exact : main_flow_at c state c.segments ≡ min (main_wish_at c state c.segments) c.outlet
  unfolding main_flow_at
  exit_exact = rw (le-ltb c.segments c.segments (omega arith))

  chosen_most : (a m x : ℕ) (t : Bool) → a ≤ m → (if t then a else min m x) ≤ m
  chosen_most a m x true h = h
  chosen_most a m x false h = omega arith

  -- at no node more than wished to by the mainline
  pub main_flow_wished : (i : ℕ) → main_flow_at c state i ≤ main_wish_at c state i
  unfolding main_flow_at
  main_flow_wished i = chosen_most _ _ _ (ltb i c.segments) (main_wished (in_force_at c i) (cell_in state i) _ _)

  pub origin_flow : main_flow_at c state zero ≤ state.origin + c.demand
  unfolding main_wish_at
  origin_flow = main_flow_wished zero

  -- what leaves a segment by the mainline is exactly what enters the next
  pub passed_on : (i : ℕ) → through (split_of (in_force_at c i) (cell_in state i)) (leaving_at c state i) ≡ main_flow_at c state (suc i)
  unfolding main_wish_at
  passed_on i = goes_on (in_force_at c i) (cell_in state i) (main_flow_at c state (suc i)) (main_flow_wished (suc i))

  -- and the rest by the off-ramp
  pub gone_at : (i : ℕ) → GoodSplit (split_of (in_force_at c i) (cell_in state i))
      → off (split_of (in_force_at c i) (cell_in state i)) (leaving_at c state i) + main_flow_at c state (suc i) ≡ leaving_at c state i
  gone_at i good = omega (arith, all_go (in_force_at c i) (cell_in state i) (main_flow_at c state (suc i)) good, passed_on i)

  -- after the step a segment holds at most its jam, and at most what was there where that was more
  pub held_at : (i : ℕ) → (next_cell c state i).n ≤ max (cell_in state i).n (in_force_at c i).jam
  held_at i = held_most (in_force_at c i) (cell_in state i) _ _ _

  -- above its jam it takes nothing in
  pub none_let_in_at : (i : ℕ) → (in_force_at c i).jam < (cell_in state i).n → (flow_at c state i).main + (flow_at c state i).ramp ≡ 0
  none_let_in_at i above = none_let_in (in_force_at c i) (cell_in state i) _ _ above

  pub ramp_queue_at : (i : ℕ) → (flow_at c state i).ramp ≤ (cell_in state i).q + (in_force_at c i).demand
  ramp_queue_at i = ramp_queue (in_force_at c i) (cell_in state i) _ _

  -- ---- the state after the step, read by index
  pub stepped_length : length (stepped c state).cells ≡ length state.cells
  unfolding stepped
  stepped_length = length_replaced _ c.segments state.cells

  pub stepped_cell : c.segments ≤ length state.cells → (i : ℕ) → i < c.segments → cell_in (stepped c state) i ≡ next_cell c state i
  unfolding stepped
  stepped_cell l i h = replaced_at (next_cell c state) c.segments i state.cells no_cell h (omega arith)
