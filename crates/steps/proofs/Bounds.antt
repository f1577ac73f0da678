-- Bounds by which nothing overflows for 96 periods of 60 steps.
use Prim.Native.Nat.{ℕ, suc, ◌+◌, ◌≤◌, ◌<◌}
use mathlib.Core.Path.{◌≡◌}
use native.Mathlib.Omega.{arith}
use Rattle.segment.specs.declared.Cell.{Cell}
use Rattle.steps.specs.declared.State.{State}
use Rattle.conditions.specs.Conditions.{Conditions, in_force_at}
use Rattle.segment.specs.Place.{moved_of}
use Rattle.steps.specs.Step.{no_cell, fresh_state, cell_in, flow_at, main_flow_at, next_cell, stepped, arrived_of, left_of}
use Rattle.conditions.specs.Good.{GoodConditions}
use Rattle.segment.specs.Bounded.{BoundedCell}
use Rattle.steps.specs.Bounded.{Bounded}
use Rattle.segment.proofs.Laws.{off_most_at, remains}
use Rattle.steps.proofs.Laws.{split_at, exit_exact, held_at}
use Rattle.conditions.proofs.Values.{replicated}
use Rattle.steps.proofs.Sums.{replaced_either, sum_most}

pub cell_longer : (s t : ℕ) (cell : Cell) → s ≤ t → BoundedCell s cell → BoundedCell t cell
cell_longer s t cell h b = record { parts = b.parts; queue = omega (arith, b.queue); remainder = b.remainder }

pub bounded_longer : (ns s t : ℕ) (state : State) → s ≤ t → Bounded ns s state → Bounded ns t state
bounded_longer ns s t state h b = record {
  cells = λ i l. cell_longer s t (cell_in state i) h (b.cells i l);
  origin = omega (arith, b.origin);
}

cell_none : (t : ℕ) → BoundedCell t no_cell
cell_none t = record { parts = omega arith; queue = omega arith; remainder = omega arith }

pub cell_fresh : (i : ℕ) → cell_in fresh_state i ≡ no_cell
cell_fresh i = replicated no_cell 64 i

pub bounded_fresh : (ns : ℕ) → Bounded ns 0 fresh_state
bounded_fresh ns = record { cells = λ i h. rw (cell_fresh i) (cell_none 0); origin = omega arith }

-- arrived in a step
pub arrived_most : (c : Conditions) → GoodConditions c → arrived_of c ≤ 660000
unfolding arrived_of
arrived_most c good =
    omega (
      arith,
      sum_most (λ i. (in_force_at c i).demand) 10000 c.segments (λ i h. (good.place i h).demand),
      good.demand,
      good.segments.1,
    )

module _ (c : Conditions) (state : State) {t : ℕ} (good : GoodConditions c) (bounded : Bounded c.segments t state) where
  pub off_most_after : (i : ℕ) → i < c.segments → (next_cell c state i).off ≤ 10000
  unfolding moved_of
  off_most_after i h =
      let off = off_most_at (in_force_at c i) (cell_in state i) (main_flow_at c state (suc i)) (split_at c state good bounded i h) in
      omega (arith, off, (good.place i h).offramp)

  pub exit_most : main_flow_at c state c.segments ≤ 20000
  exit_most = omega (arith, exit_exact c state, good.outlet)

  -- what a segment holds after the step
  held_after : (i : ℕ) → i < c.segments → BoundedCell (t + 1) (next_cell c state i)
  unfolding moved_of
  held_after i h = record {
    parts = omega (arith, held_at c state i, (good.place i h).jam, (bounded.cells i h).parts);
    queue = omega (arith, (good.place i h).demand, (bounded.cells i h).queue);
    remainder = remains (in_force_at c i) (cell_in state i) (flow_at c state i) _;
  }

  -- what holds of the rules' cell and of none holds of a cell after the step
  cell_after : (P : Cell → Type 0) (i : ℕ) → i < c.segments → P (next_cell c state i) → P no_cell → P (cell_in (stepped c state) i)
  unfolding stepped
  cell_after P i h a b = replaced_either P (next_cell c state) c.segments i state.cells no_cell h a b

  -- left in the step
  pub left_most : left_of c.segments (stepped c state) ≤ 660000
  unfolding left_of stepped
  left_most =
      omega (
        arith,
        sum_most (λ i. (cell_in (stepped c state) i).off) 10000 c.segments (λ i h. cell_after (λ x. x.off ≤ 10000) i h (off_most_after i h) (omega arith)),
        exit_most,
        good.segments.1,
      )

  pub bounded_after : Bounded c.segments (t + 1) (stepped c state)
  unfolding stepped
  bounded_after = record {
    cells = λ i h. cell_after (BoundedCell (t + 1)) i h (held_after i h) (cell_none (t + 1));
    origin = omega (arith, good.demand, bounded.origin);
  }
