-- Balance of one step: what is stored after it and what left in it is what was stored before and what arrived.
use Prim.Native.Nat.{ℕ, zero, suc, ◌+◌, ◌-◌, ◌≤◌, ◌<◌}
use mathlib.Core.Path.{◌≡◌, refl}
use native.Mathlib.Omega.{arith}
use lib.ListN.{length}
use Rattle.steps.specs.declared.State.{State}
use Rattle.conditions.specs.Conditions.{Conditions, in_force_at}
use Rattle.segment.specs.Place.{moved_of}
use Rattle.steps.specs.Step.{cell_in, main_flow_at, next_cell, stepped, sum_to, arrived_of, left_of, stored_of}
use Rattle.conditions.specs.Good.{GoodConditions}
use Rattle.steps.specs.Bounded.{Bounded}
use Rattle.segment.proofs.Laws.{let_out_parts}
use Rattle.steps.proofs.Laws.{split_at, gone_at, main_flow_at_lem, origin_flow, ramp_queue_at, stepped_cell}
use Rattle.steps.proofs.Sums.{sum_same, telescope}

-- of n, q, ramp demand d, f, r, y, off(y), the flow ahead and the flow in
kept : (n q d f r y o ahead g : ℕ) →
    y ≤ n →
    r ≤ q + d →
    o + ahead ≡ y →
    g ≡ f →
    ((n + f + r - y) + (q + d - r)) + o + ahead ≡ (n + q) + d + g
kept n q d f r y o ahead g a b c e = omega arith

summed : (s s' l d o o' f a e : ℕ) → s' + l + e ≡ s + d + f → f ≤ o + a → o' ≡ o + a - f → s' + o' + (e + l) ≡ s + o + (a + d)
summed s s' l d o o' f a e p q r = omega arith

module _ (c : Conditions) (state : State) {t : ℕ} (good : GoodConditions c) (bounded : Bounded c.segments t state) where
  -- at a segment with its ramp's queue, what it passes on counted as gone
  pub segment_balance : (i : ℕ) →
      i < c.segments →
      ((next_cell c state i).n + (next_cell c state i).q) + (next_cell c state i).off + main_flow_at c state (suc i) ≡
      ((cell_in state i).n + (cell_in state i).q) + (in_force_at c i).demand + main_flow_at c state i
  unfolding moved_of
  segment_balance i h =
      kept _ _ _ _ _ _ _ _ _
      (let_out_parts (in_force_at c i) (cell_in state i) _)
      (ramp_queue_at c state i)
      (gone_at c state i (split_at c state good bounded i h))
      (main_flow_at_lem c state i h)

  module _ (long : c.segments ≤ length state.cells) where
    pub left_is : left_of c.segments (stepped c state) ≡ main_flow_at c state c.segments + sum_to (λ i. (next_cell c state i).off) c.segments
    unfolding left_of stepped
    left_is =
        rw (sum_same (λ i. (cell_in (stepped c state) i).off) (λ i. (next_cell c state i).off) c.segments (λ i h. rw (stepped_cell c state long i h)))

    pub stored_is : stored_of c.segments (stepped c state)
        ≡ sum_to (λ i. (next_cell c state i).n + (next_cell c state i).q) c.segments + (state.origin + c.demand - main_flow_at c state zero)
    unfolding stored_of stepped
    stored_is =
        rw (sum_same (λ i. (cell_in (stepped c state) i).n + (cell_in (stepped c state) i).q)
        (λ i. (next_cell c state i).n + (next_cell c state i).q)
        c.segments
        (λ i h. rw (stepped_cell c state long i h)))

    -- over all segments, ramp queues and the origin
    pub balance :
        stored_of c.segments (stepped c state) + left_of c.segments (stepped c state) ≡
        stored_of c.segments state + arrived_of c
    unfolding stored_of arrived_of
    balance =
        rw (stored_is, left_is)
        (summed _ _ _ _ _ _ _ _ _ (telescope _ _ _ _ (main_flow_at c state) c.segments segment_balance) (origin_flow c state) refl)
