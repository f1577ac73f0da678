-- Manual 4.2 to 4.10: the rules wired over the road, every value from the state at the step's start.
-- Segments and nodes are counted from 0: node i is the entrance of segment i, node NS is the exit.
use Rattle.std.specs.Prelude.{ℕ, zero, suc, ◌+◌, ◌-◌, min, Bool, List, get_or, replicate, set, ltb, if◌then◌else◌}
use Rattle.segment.specs.declared.Cell.{Cell}
use Rattle.rules.specs.declared.Flow.{Flow}
use Rattle.steps.specs.declared.State.{State}
use Rattle.conditions.specs.Conditions.{Conditions, in_force_at}
use Rattle.segment.specs.Place.{onward_of, queued_of, ramp_wish_of, supply_of, inflow_of, leaving_of, moved_of}

-- a fresh segment, and what stands past the last one
abbrev pub no_cell : Cell
no_cell = record { n = 0; q = 0; main = 0; ramp = 0; off = 0; out = 0; remainder = 0 }

-- a road just laid has all at zero
abbrev pub fresh_state : State
fresh_state = record { cells = replicate 64 no_cell; origin = 0; exit = 0 }

-- the cell of segment i in a state: n(i), q(i), the last step's flows and the remainder
abbrev pub cell_in : State → ℕ → Cell
cell_in state i = get_or state.cells i no_cell

module _ (c : Conditions) (state : State) where
  -- M(i): o + mainline demand at the first node, through(Y0(i − 1)) at the others, exit included
  unfoldable pub main_wish_at : ℕ → ℕ
  main_wish_at zero = state.origin + c.demand
  main_wish_at (suc i) = onward_of (in_force_at c i) (cell_in state i)

  -- n(i − 1) is above Q(i − 1), or for the first node o is above 0
  unfoldable pub queued_at : ℕ → Bool
  queued_at zero = ltb 0 state.origin
  queued_at (suc i) = queued_of (in_force_at c i) (cell_in state i)

  -- W(i)
  abbrev pub ramp_wish_at : ℕ → ℕ
  ramp_wish_at i = ramp_wish_of (in_force_at c i) (cell_in state i)

  -- P(i)
  abbrev pub supply_at : ℕ → ℕ
  supply_at i = supply_of (in_force_at c i) (cell_in state i) (queued_at i)

  -- f(i) and r(i) at the entrance of a segment
  abbrev pub flow_at : ℕ → Flow
  flow_at i = inflow_of (in_force_at c i) (cell_in state i) (main_wish_at i) (queued_at i)

  -- f(i); at the exit the smaller of M and X
  unfoldable pub main_flow_at : ℕ → ℕ
  main_flow_at i = if ltb i c.segments then (flow_at i).main else min (main_wish_at i) c.outlet

  -- y(i)
  abbrev pub leaving_at : ℕ → ℕ
  leaving_at i = leaving_of (in_force_at c i) (cell_in state i) (main_flow_at (suc i))

  -- the cell after the step
  abbrev pub next_cell : ℕ → Cell
  next_cell i = moved_of (in_force_at c i) (cell_in state i) (flow_at i) (leaving_at i)

-- the list with each element at an index below the number replaced by the function's value at its index
unfoldable pub replaced : {A : Type 0} → (ℕ → A) → ℕ → List A → List A
replaced g zero xs = xs
replaced g (suc k) xs = set (replaced g k xs) k (g k)

-- the state after a step; o becomes o + mainline demand − f(1)
unfoldable pub stepped : Conditions → State → State
stepped c state = record {
  cells = replaced (next_cell c state) c.segments state.cells;
  origin = state.origin + c.demand - main_flow_at c state zero;
  exit = main_flow_at c state c.segments;
}

-- the sum of the function's values at the indexes below the number
unfoldable pub sum_to : (ℕ → ℕ) → ℕ → ℕ
sum_to g zero = zero
sum_to g (suc k) = sum_to g k + g k

-- arrived in a step: the mainline demand plus all ramp demands, held ramps included
unfoldable pub arrived_of : Conditions → ℕ
arrived_of c = c.demand + sum_to (λ i. (in_force_at c i).demand) c.segments

-- left in the step that led to the state: f(NS + 1) plus all off(y(i))
unfoldable pub left_of : (segments : ℕ) → State → ℕ
left_of ns state = state.exit + sum_to (λ i. (cell_in state i).off) ns

-- stored: all n and q, and o
unfoldable pub stored_of : (segments : ℕ) → State → ℕ
stored_of ns state = sum_to (λ i. (cell_in state i).n + (cell_in state i).q) ns + state.origin
