-- The first rules compute: what is in force under a sheet of the first layout, and steps of studies whose states were worked out apart from these
-- definitions.
use mathlib.Core.Path.{◌≡◌, refl}
use Prim.Native.Nat.{ℕ, zero, suc}
use mathlib.Core.List.{List, [], ◌∷◌}
use lib.ListN.{replicate}
use Rattle.parts.specs.Parts.{road_globals, segment_of, period_globals}
use Rattle.segment.specs.declared.Cell.{Cell}
use Rattle.steps.specs.declared.State.{State}
use Rattle.rules.specs.Rules.{largest, rounded_up, wish_to_leave, off, remainder_after, through, most_leaving, ramp_wish, entrance, supply, ramp_flow, main_flow, leaving}
use Rattle.steps.specs.Step.{no_cell, main_wish_at, queued_at, main_flow_at, replaced, stepped}
use Rattle.segment.specs.Place.{split_of, wish_of, most_of, onward_of, queued_of, ramp_wish_of, entrance_of, supply_of, inflow_of, leaving_of, moved_of}
use Rattle.conditions.specs.Values.{values_to}
use Rattle.conditions.specs.Conditions.{Under, parts_at, lowered_by, demand_under, outlet_under, segments}
use Rattle.first_rules.specs.First.{first_demand, first_meter, first_conditions}

-- the worked road, and a sheet with a ramp that is held: NS, mainline demand, X, ramp demand, meter rate
worked : List ℕ
worked = 1 ∷ 190 ∷ 45 ∷ 7 ∷ 1320 ∷ 2 ∷ 60 ∷ 4400 ∷ 0 ∷ 0 ∷ 0 ∷ []

in_force_lem : first_conditions worked (Under (1 ∷ 4800 ∷ 10000 ∷ 30 ∷ 20 ∷ [])) ≡ record {
  segments = 1;
  demand = 4800;
  outlet = 10000;
  places =
      record {
        length = 1320;
        speed = 60;
        lanes = 2;
        capacity = 4400;
        lowered = 4092;
        jam = 22800;
        critical = 5400;
        limit = 0;
        share = 0;
        offramp = 0;
        demand = 30;
      }
      ∷ [];
}
unfolding worked first_conditions first_demand first_meter parts_at lowered_by demand_under outlet_under road_globals segment_of period_globals values_to
in_force_lem = refl

cell : (n q f r off y remainder : ℕ) → Cell
cell n q f r o y m = record { n = n; q = q; main = f; ramp = r; off = o; out = y; remainder = m }

-- so many steps from the road just laid on
after : ℕ → (road first : List ℕ) → State
after zero road first = record { cells = replicate (segments road) no_cell; origin = 0; exit = 0 }
after (suc k) road first = stepped (first_conditions road (Under first)) (after k road first)

-- a road, a sheet of the first layout, how many steps, and the state after them
data Trace : Type 0 where
  From : (road first : List ℕ) → (steps : ℕ) → State → Trace

Agrees : Trace → Type 0
Agrees (From road first k state) = after k road first ≡ state

AllAgree : List Trace → Type 0
AllAgree [] = Unit {0}
AllAgree (x ∷ xs) = Agrees x × AllAgree xs

traces : List Trace
traces =
    -- the worked study
    From worked (1 ∷ 4800 ∷ 10000 ∷ 0 ∷ 0 ∷ []) 3 (record { cells = cell 4092 0 4092 0 0 4092 0 ∷ []; origin = 1816; exit = 4092 })
    -- metered ramps, one meter at zero
    ∷ From
    (3 ∷ 190 ∷ 45 ∷ 7 ∷ 2640 ∷ 3 ∷ 60 ∷ 6600 ∷ 1800 ∷ 0 ∷ 0 ∷ 2640 ∷ 3 ∷ 60 ∷ 6600 ∷ 1800 ∷ 0 ∷ 0 ∷ 2640 ∷ 2 ∷ 60 ∷ 4400 ∷ 1800 ∷ 0 ∷ 0 ∷ [])
    (3 ∷ 3500 ∷ 20000 ∷ 600 ∷ 240 ∷ 900 ∷ 400 ∷ 700 ∷ 0 ∷ [])
    5
    (record { cells = cell 7246 1800 3500 240 0 3506 0 ∷ cell 6852 2500 3506 400 0 2947 0 ∷ cell 4390 3500 2947 0 0 1444 0 ∷ []; origin = 0; exit = 1444 })
    -- five segments of uneven kinds
    ∷ From
    (5 ∷ 300 ∷ 45 ∷ 50
    ∷ 300 ∷ 6 ∷ 15 ∷ 20000 ∷ 0 ∷ 720 ∷ 1
    ∷ 1320 ∷ 6 ∷ 60 ∷ 1 ∷ 1800 ∷ 999 ∷ 0
    ∷ 9527 ∷ 7 ∷ 15 ∷ 20000 ∷ 10000 ∷ 583 ∷ 10000
    ∷ 2512 ∷ 3 ∷ 34 ∷ 20000 ∷ 10000 ∷ 224 ∷ 600
    ∷ 500 ∷ 1 ∷ 60 ∷ 1 ∷ 1800 ∷ 250 ∷ 1
    ∷ [])
    (5 ∷ 20000 ∷ 20000 ∷ 600 ∷ 10000 ∷ 9912 ∷ 0 ∷ 600 ∷ 0 ∷ 0 ∷ 900 ∷ 3210 ∷ 8933 ∷ [])
    4
    (record { cells = cell 24544 2400 7 0 0 0 0 ∷ cell 0 39648 0 0 0 0 0 ∷ cell 0 2400 0 0 0 0 0 ∷ cell 0 0 0 0 0 0 0 ∷ cell 1 12836 0 1 0 1 750 ∷ []; origin = 55456; exit = 1 })
    -- remainders in light traffic
    ∷ From
    (5 ∷ 190 ∷ 45 ∷ 7
    ∷ 2640 ∷ 3 ∷ 60 ∷ 6600 ∷ 0 ∷ 333 ∷ 10000
    ∷ 2640 ∷ 3 ∷ 60 ∷ 6600 ∷ 0 ∷ 1 ∷ 1
    ∷ 2640 ∷ 3 ∷ 60 ∷ 6600 ∷ 0 ∷ 999 ∷ 10000
    ∷ 2640 ∷ 3 ∷ 60 ∷ 6600 ∷ 0 ∷ 1000 ∷ 3
    ∷ 2640 ∷ 3 ∷ 60 ∷ 6600 ∷ 0 ∷ 250 ∷ 0
    ∷ [])
    (5 ∷ 7 ∷ 20000 ∷ 0 ∷ 0 ∷ 0 ∷ 0 ∷ 0 ∷ 0 ∷ 0 ∷ 0 ∷ 0 ∷ 0 ∷ [])
    12
    (record { cells = cell 13 0 7 0 2 7 643 ∷ cell 9 0 5 0 0 4 39 ∷ cell 8 0 4 0 5 5 969 ∷ cell 0 0 0 0 0 0 0 ∷ cell 0 0 0 0 0 0 0 ∷ []; origin = 0; exit = 0 })
    ∷ []

-- every trace is what the first rules give
every_trace : AllAgree traces
unfolding AllAgree Agrees traces worked after cell stepped replaced main_flow_at queued_at main_wish_at split_of wish_of most_of onward_of queued_of ramp_wish_of entrance_of supply_of inflow_of leaving_of moved_of first_conditions first_demand first_meter demand_under outlet_under values_to road_globals segment_of period_globals leaving main_flow ramp_flow supply entrance lowered_by ramp_wish most_leaving through off remainder_after wish_to_leave parts_at rounded_up largest
every_trace = (refl, (refl, (refl, (refl, tt))))
