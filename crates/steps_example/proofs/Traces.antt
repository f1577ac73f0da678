-- The rules compute: steps of studies whose states were worked out apart from these definitions.
use Prim.Native.Nat.{ℕ, zero, suc}
use mathlib.Core.Path.{◌≡◌, refl}
use mathlib.Core.List.{List, [], ◌∷◌}
use lib.ListN.{replicate}
use Rattle.parts.specs.Parts.{road_globals, segment_of, period_globals, entry_of}
use Rattle.segment.specs.declared.Cell.{Cell}
use Rattle.steps.specs.declared.State.{State}
use Rattle.rules.specs.Rules.{largest, rounded_up, wish_to_leave, off, remainder_after, through, most_leaving, ramp_wish, entrance, supply, ramp_flow, main_flow, leaving}
use Rattle.steps.specs.Step.{no_cell, main_wish_at, queued_at, main_flow_at, replaced, stepped}
use Rattle.segment.specs.Place.{split_of, wish_of, most_of, onward_of, queued_of, ramp_wish_of, entrance_of, supply_of, inflow_of, leaving_of, moved_of}
use Rattle.conditions.specs.Conditions.{open_capacity, parts_at, lowered_by, segments, SheetInForce, None, Under, conditions_of, demand_under, outlet_under, entry_under, in_force}
use Rattle.conditions.specs.Values.{values_to}

cell : (n q f r off y remainder : ℕ) → Cell
cell n q f r o y m = record { n = n; q = q; main = f; ramp = r; off = o; out = y; remainder = m }

-- a road just laid, of so many segments
laid : ℕ → State
laid ns = record { cells = replicate ns no_cell; origin = 0; exit = 0 }

-- a sheet in force, or none, for so many steps
data Stretch : Type 0 where
  For : (steps : ℕ) → SheetInForce → Stretch

-- so many steps under a sheet, and one stretch after the other
under : ℕ → List ℕ → SheetInForce → State → State
under zero road sheet state = state
under (suc k) road sheet state = stepped (conditions_of road sheet) (under k road sheet state)

after : List ℕ → State → List Stretch → State
after road state [] = state
after road state (For k sheet ∷ more) = after road (under k road sheet state) more

-- a road, the stretches from the road just laid on, and the state after them
data Trace : Type 0 where
  From : (road : List ℕ) → List Stretch → State → Trace

Agrees : Trace → Type 0
Agrees (From road stretches state) = after road (laid (segments road)) stretches ≡ state

AllAgree : List Trace → Type 0
AllAgree [] = Unit {0}
AllAgree (x ∷ xs) = Agrees x × AllAgree xs

traces : List Trace
traces =
    -- the worked study
    From
    (1 ∷ 190 ∷ 45 ∷ 7 ∷ 1320 ∷ 2 ∷ 60 ∷ 4400 ∷ 0 ∷ 0 ∷ 0 ∷ [])
    (For 3 (Under (1 ∷ 4800 ∷ 10000 ∷ 0 ∷ 0 ∷ 2 ∷ [])) ∷ [])
    (record { cells = cell 4092 0 4092 0 0 4092 0 ∷ []; origin = 1816; exit = 4092 })
    -- an off-ramp that takes nobody, and one of share 1000
    ∷ From
    (4 ∷ 190 ∷ 45 ∷ 7
    ∷ 2640 ∷ 3 ∷ 60 ∷ 6600 ∷ 0 ∷ 0 ∷ 0
    ∷ 2640 ∷ 3 ∷ 60 ∷ 6600 ∷ 0 ∷ 400 ∷ 0
    ∷ 2640 ∷ 3 ∷ 60 ∷ 6600 ∷ 0 ∷ 1000 ∷ 100
    ∷ 2640 ∷ 3 ∷ 60 ∷ 6600 ∷ 0 ∷ 0 ∷ 0
    ∷ [])
    (For 8 (Under (4 ∷ 5000 ∷ 20000 ∷ 0 ∷ 0 ∷ 3 ∷ 0 ∷ 0 ∷ 3 ∷ 0 ∷ 0 ∷ 3 ∷ 0 ∷ 0 ∷ 3 ∷ [])) ∷ [])
    (record { cells = cell 9960 0 5000 0 0 4961 0 ∷ cell 30038 0 4961 0 0 0 800 ∷ cell 0 0 0 0 0 0 0 ∷ cell 0 0 0 0 0 0 0 ∷ []; origin = 0; exit = 0 })
    -- metered ramps, one meter at zero
    ∷ From
    (3 ∷ 190 ∷ 45 ∷ 7 ∷ 2640 ∷ 3 ∷ 60 ∷ 6600 ∷ 1800 ∷ 0 ∷ 0 ∷ 2640 ∷ 3 ∷ 60 ∷ 6600 ∷ 1800 ∷ 0 ∷ 0 ∷ 2640 ∷ 2 ∷ 60 ∷ 4400 ∷ 1800 ∷ 0 ∷ 0 ∷ [])
    (For 5 (Under (3 ∷ 3500 ∷ 20000 ∷ 600 ∷ 240 ∷ 3 ∷ 900 ∷ 400 ∷ 3 ∷ 700 ∷ 0 ∷ 2 ∷ [])) ∷ [])
    (record { cells = cell 7246 1800 3500 240 0 3506 0 ∷ cell 6852 2500 3506 400 0 2947 0 ∷ cell 4390 3500 2947 0 0 1444 0 ∷ []; origin = 0; exit = 1444 })
    -- five segments of uneven kinds
    ∷ From
    (5 ∷ 300 ∷ 45 ∷ 50
    ∷ 300 ∷ 6 ∷ 15 ∷ 20000 ∷ 0 ∷ 720 ∷ 1
    ∷ 1320 ∷ 6 ∷ 60 ∷ 1 ∷ 1800 ∷ 999 ∷ 0
    ∷ 9527 ∷ 7 ∷ 15 ∷ 20000 ∷ 10000 ∷ 583 ∷ 10000
    ∷ 2512 ∷ 3 ∷ 34 ∷ 20000 ∷ 10000 ∷ 224 ∷ 600
    ∷ 500 ∷ 1 ∷ 60 ∷ 1 ∷ 1800 ∷ 250 ∷ 1
    ∷ [])
    (For 4 (Under (5 ∷ 20000 ∷ 20000 ∷ 600 ∷ 10000 ∷ 6 ∷ 9912 ∷ 0 ∷ 6 ∷ 600 ∷ 0 ∷ 7 ∷ 0 ∷ 900 ∷ 3 ∷ 3210 ∷ 8933 ∷ 1 ∷ [])) ∷ [])
    (record { cells = cell 24544 2400 7 0 0 0 0 ∷ cell 0 39648 0 0 0 0 0 ∷ cell 0 2400 0 0 0 0 0 ∷ cell 0 0 0 0 0 0 0 ∷ cell 1 12836 0 1 0 1 750 ∷ []; origin = 55456; exit = 1 })
    -- a segment at its jam
    ∷ From
    (2 ∷ 100 ∷ 60 ∷ 50 ∷ 300 ∷ 1 ∷ 15 ∷ 20000 ∷ 0 ∷ 0 ∷ 0 ∷ 300 ∷ 1 ∷ 15 ∷ 1 ∷ 0 ∷ 0 ∷ 0 ∷ [])
    (For 8 (Under (2 ∷ 20000 ∷ 20000 ∷ 0 ∷ 0 ∷ 1 ∷ 0 ∷ 0 ∷ 1 ∷ [])) ∷ [])
    (record { cells = cell 1363 0 0 0 0 0 0 ∷ cell 0 0 0 0 0 0 0 ∷ []; origin = 158637; exit = 0 })
    -- ramps held by R = 0 and by a meter at zero
    ∷ From
    (2 ∷ 190 ∷ 45 ∷ 7 ∷ 2640 ∷ 3 ∷ 60 ∷ 6600 ∷ 0 ∷ 0 ∷ 0 ∷ 2640 ∷ 3 ∷ 60 ∷ 6600 ∷ 500 ∷ 0 ∷ 0 ∷ [])
    (For 8 (Under (2 ∷ 2000 ∷ 20000 ∷ 500 ∷ 900 ∷ 3 ∷ 500 ∷ 0 ∷ 3 ∷ [])) ∷ [])
    (record { cells = cell 3984 4000 2000 0 0 1984 0 ∷ cell 3859 4000 1984 0 0 1875 0 ∷ []; origin = 0; exit = 1875 })
    -- before any sheet a road just laid stays as it is
    ∷ From
    (2 ∷ 190 ∷ 45 ∷ 7 ∷ 2640 ∷ 3 ∷ 60 ∷ 6600 ∷ 500 ∷ 0 ∷ 0 ∷ 2640 ∷ 3 ∷ 60 ∷ 6600 ∷ 500 ∷ 0 ∷ 0 ∷ [])
    (For 3 None ∷ [])
    (record { cells = cell 0 0 0 0 0 0 0 ∷ cell 0 0 0 0 0 0 0 ∷ []; origin = 0; exit = 0 })
    -- a lane closed on a busy road
    ∷ From
    (6 ∷ 190 ∷ 45 ∷ 7
    ∷ 2640 ∷ 3 ∷ 60 ∷ 6600 ∷ 0 ∷ 0 ∷ 0
    ∷ 2640 ∷ 3 ∷ 60 ∷ 6600 ∷ 2000 ∷ 0 ∷ 0
    ∷ 2640 ∷ 3 ∷ 60 ∷ 6600 ∷ 0 ∷ 0 ∷ 0
    ∷ 2640 ∷ 2 ∷ 60 ∷ 4200 ∷ 0 ∷ 0 ∷ 0
    ∷ 2640 ∷ 3 ∷ 60 ∷ 6600 ∷ 0 ∷ 150 ∷ 900
    ∷ 2640 ∷ 3 ∷ 60 ∷ 6600 ∷ 0 ∷ 0 ∷ 0
    ∷ [])
    (For 12 (Under (6 ∷ 5200 ∷ 20000 ∷ 0 ∷ 0 ∷ 3 ∷ 500 ∷ 900 ∷ 3 ∷ 0 ∷ 0 ∷ 3 ∷ 0 ∷ 0 ∷ 2 ∷ 0 ∷ 0 ∷ 3 ∷ 0 ∷ 0 ∷ 3 ∷ []))
    ∷ For 3 (Under (6 ∷ 5200 ∷ 20000 ∷ 0 ∷ 0 ∷ 3 ∷ 500 ∷ 900 ∷ 3 ∷ 0 ∷ 0 ∷ 2 ∷ 0 ∷ 0 ∷ 2 ∷ 0 ∷ 0 ∷ 3 ∷ 0 ∷ 0 ∷ 3 ∷ []))
    ∷ [])
    (record { cells = cell 10399 0 5200 0 0 5200 0 ∷ cell 17105 0 5200 500 0 3802 0 ∷ cell 15419 0 3802 0 0 3906 0 ∷ cell 7876 0 3906 0 0 3970 0 ∷ cell 8008 0 3970 0 605 4038 950 ∷ cell 6679 0 3433 0 0 3247 0 ∷ []; origin = 0; exit = 3247 })
    -- one of eight lanes open, which leaves no capacity, and all reopened
    ∷ From
    (3 ∷ 190 ∷ 45 ∷ 7
    ∷ 2640 ∷ 8 ∷ 60 ∷ 1 ∷ 0 ∷ 0 ∷ 0
    ∷ 2640 ∷ 8 ∷ 60 ∷ 7 ∷ 500 ∷ 0 ∷ 0
    ∷ 2640 ∷ 3 ∷ 60 ∷ 6600 ∷ 0 ∷ 0 ∷ 0
    ∷ [])
    (For 12 (Under (3 ∷ 500 ∷ 20000 ∷ 0 ∷ 0 ∷ 1 ∷ 10 ∷ 20 ∷ 1 ∷ 0 ∷ 0 ∷ 3 ∷ []))
    ∷ For 12 (Under (3 ∷ 500 ∷ 20000 ∷ 0 ∷ 0 ∷ 1 ∷ 10 ∷ 20 ∷ 1 ∷ 0 ∷ 0 ∷ 3 ∷ []))
    ∷ For 10 (Under (3 ∷ 500 ∷ 20000 ∷ 0 ∷ 0 ∷ 8 ∷ 0 ∷ 0 ∷ 8 ∷ 0 ∷ 0 ∷ 3 ∷ []))
    ∷ [])
    (record { cells = cell 0 0 0 0 0 0 0 ∷ cell 0 240 0 0 0 0 0 ∷ cell 0 0 0 0 0 0 0 ∷ []; origin = 17000; exit = 0 })
    -- ramps' shares by the open lanes, and reopened
    ∷ From
    (3 ∷ 190 ∷ 45 ∷ 7
    ∷ 2640 ∷ 3 ∷ 60 ∷ 6600 ∷ 1800 ∷ 0 ∷ 0
    ∷ 2640 ∷ 3 ∷ 60 ∷ 6600 ∷ 1800 ∷ 0 ∷ 0
    ∷ 2640 ∷ 2 ∷ 60 ∷ 4400 ∷ 1800 ∷ 0 ∷ 0
    ∷ [])
    (For 12 (Under (3 ∷ 6000 ∷ 20000 ∷ 600 ∷ 2400 ∷ 3 ∷ 900 ∷ 4000 ∷ 1 ∷ 700 ∷ 10000 ∷ 1 ∷ []))
    ∷ For 3 (Under (3 ∷ 3500 ∷ 20000 ∷ 600 ∷ 10000 ∷ 3 ∷ 900 ∷ 10000 ∷ 3 ∷ 700 ∷ 10000 ∷ 2 ∷ []))
    ∷ [])
    (record { cells = cell 40480 502 2735 547 0 5238 0 ∷ cell 16103 0 5238 900 0 3700 0 ∷ cell 8212 0 3700 700 0 3812 0 ∷ []; origin = 22310; exit = 3812 })
    -- six lanes open, two, and six again
    ∷ From
    (1 ∷ 189 ∷ 36 ∷ 43 ∷ 13697 ∷ 6 ∷ 57 ∷ 18177 ∷ 8078 ∷ 250 ∷ 7709 ∷ [])
    (For 12 (Under (1 ∷ 2026 ∷ 12798 ∷ 990 ∷ 10000 ∷ 6 ∷ []))
    ∷ For 12 (Under (1 ∷ 1441 ∷ 20000 ∷ 424 ∷ 10000 ∷ 6 ∷ []))
    ∷ For 10 (Under (1 ∷ 5516 ∷ 20000 ∷ 6623 ∷ 9895 ∷ 2 ∷ []))
    ∷ For 5 (Under (1 ∷ 0 ∷ 14632 ∷ 9983 ∷ 900 ∷ 6 ∷ []))
    ∷ [])
    (record { cells = cell 44206 102438 0 900 1091 4365 250 ∷ []; origin = 0; exit = 3274 })
    -- four segments of uneven kinds, most of their lanes closed
    ∷ From
    (4 ∷ 229 ∷ 34 ∷ 33
    ∷ 19232 ∷ 5 ∷ 31 ∷ 7053 ∷ 0 ∷ 100 ∷ 10000
    ∷ 2060 ∷ 4 ∷ 30 ∷ 604 ∷ 1800 ∷ 292 ∷ 10000
    ∷ 1320 ∷ 8 ∷ 35 ∷ 411 ∷ 9914 ∷ 0 ∷ 1
    ∷ 2067 ∷ 6 ∷ 40 ∷ 752 ∷ 6342 ∷ 866 ∷ 0
    ∷ [])
    (For 12 (Under (4 ∷ 4800 ∷ 20000 ∷ 400 ∷ 900 ∷ 1 ∷ 400 ∷ 900 ∷ 1 ∷ 400 ∷ 10000 ∷ 1 ∷ 0 ∷ 0 ∷ 6 ∷ [])) ∷ [])
    (record { cells = cell 10901 4800 944 0 9 85 300 ∷ cell 1409 3792 76 75 10 36 676 ∷ cell 86 4474 26 25 0 51 0 ∷ cell 525 0 51 0 0 0 866 ∷ []; origin = 45806; exit = 0 })
    -- both segments above their jam behind a narrow exit: nobody gains, mainline and ramps wait
    ∷ From
    (2 ∷ 100 ∷ 60 ∷ 50 ∷ 300 ∷ 2 ∷ 60 ∷ 20000 ∷ 500 ∷ 0 ∷ 0 ∷ 300 ∷ 2 ∷ 60 ∷ 8000 ∷ 500 ∷ 0 ∷ 0 ∷ [])
    (For 3 (Under (2 ∷ 20000 ∷ 0 ∷ 100 ∷ 100 ∷ 2 ∷ 100 ∷ 100 ∷ 2 ∷ []))
    ∷ For 1 (Under (2 ∷ 500 ∷ 0 ∷ 100 ∷ 100 ∷ 1 ∷ 100 ∷ 100 ∷ 1 ∷ []))
    ∷ For 3 (Under (2 ∷ 500 ∷ 300 ∷ 100 ∷ 100 ∷ 1 ∷ 100 ∷ 100 ∷ 1 ∷ []))
    ∷ [])
    (record { cells = cell 2727 500 0 0 0 0 0 ∷ cell 1827 500 0 0 0 300 0 ∷ []; origin = 56946; exit = 300 })
    -- and with the exit open they are back at or below it
    ∷ From
    (2 ∷ 100 ∷ 60 ∷ 50 ∷ 300 ∷ 2 ∷ 60 ∷ 20000 ∷ 500 ∷ 0 ∷ 0 ∷ 300 ∷ 2 ∷ 60 ∷ 8000 ∷ 500 ∷ 0 ∷ 0 ∷ [])
    (For 3 (Under (2 ∷ 20000 ∷ 0 ∷ 100 ∷ 100 ∷ 2 ∷ 100 ∷ 100 ∷ 2 ∷ []))
    ∷ For 4 (Under (2 ∷ 500 ∷ 20000 ∷ 100 ∷ 100 ∷ 1 ∷ 100 ∷ 100 ∷ 1 ∷ []))
    ∷ [])
    (record { cells = cell 201 500 0 0 0 1263 0 ∷ cell 1363 300 1263 100 0 0 0 ∷ []; origin = 56946; exit = 0 })
    -- remainders in light traffic: shares 333, 1, 999 and 1000, and an off-ramp that takes nobody
    ∷ From
    (5 ∷ 190 ∷ 45 ∷ 7
    ∷ 2640 ∷ 3 ∷ 60 ∷ 6600 ∷ 0 ∷ 333 ∷ 10000
    ∷ 2640 ∷ 3 ∷ 60 ∷ 6600 ∷ 0 ∷ 1 ∷ 1
    ∷ 2640 ∷ 3 ∷ 60 ∷ 6600 ∷ 0 ∷ 999 ∷ 10000
    ∷ 2640 ∷ 3 ∷ 60 ∷ 6600 ∷ 0 ∷ 1000 ∷ 3
    ∷ 2640 ∷ 3 ∷ 60 ∷ 6600 ∷ 0 ∷ 250 ∷ 0
    ∷ [])
    (For 12 (Under (5 ∷ 7 ∷ 20000 ∷ 0 ∷ 0 ∷ 3 ∷ 0 ∷ 0 ∷ 3 ∷ 0 ∷ 0 ∷ 3 ∷ 0 ∷ 0 ∷ 3 ∷ 0 ∷ 0 ∷ 3 ∷ []))
    ∷ For 12 (Under (5 ∷ 1 ∷ 20000 ∷ 0 ∷ 0 ∷ 3 ∷ 0 ∷ 0 ∷ 3 ∷ 0 ∷ 0 ∷ 3 ∷ 0 ∷ 0 ∷ 3 ∷ 0 ∷ 0 ∷ 3 ∷ []))
    ∷ [])
    (record { cells = cell 2 0 1 0 1 1 302 ∷ cell 0 0 0 0 0 1 63 ∷ cell 1 0 1 0 1 1 938 ∷ cell 0 0 0 0 0 0 0 ∷ cell 0 0 0 0 0 0 0 ∷ []; origin = 0; exit = 0 })
    -- the same with more traffic
    ∷ From
    (5 ∷ 190 ∷ 45 ∷ 7
    ∷ 2640 ∷ 3 ∷ 60 ∷ 6600 ∷ 0 ∷ 333 ∷ 10000
    ∷ 2640 ∷ 3 ∷ 60 ∷ 6600 ∷ 0 ∷ 1 ∷ 1
    ∷ 2640 ∷ 3 ∷ 60 ∷ 6600 ∷ 0 ∷ 999 ∷ 10000
    ∷ 2640 ∷ 3 ∷ 60 ∷ 6600 ∷ 0 ∷ 1000 ∷ 3
    ∷ 2640 ∷ 3 ∷ 60 ∷ 6600 ∷ 0 ∷ 250 ∷ 0
    ∷ [])
    (For 12 (Under (5 ∷ 7 ∷ 20000 ∷ 0 ∷ 0 ∷ 3 ∷ 0 ∷ 0 ∷ 3 ∷ 0 ∷ 0 ∷ 3 ∷ 0 ∷ 0 ∷ 3 ∷ 0 ∷ 0 ∷ 3 ∷ []))
    ∷ For 12 (Under (5 ∷ 1 ∷ 20000 ∷ 0 ∷ 0 ∷ 3 ∷ 0 ∷ 0 ∷ 3 ∷ 0 ∷ 0 ∷ 3 ∷ 0 ∷ 0 ∷ 3 ∷ 0 ∷ 0 ∷ 3 ∷ []))
    ∷ For 10 (Under (5 ∷ 100 ∷ 20000 ∷ 0 ∷ 0 ∷ 3 ∷ 0 ∷ 0 ∷ 3 ∷ 0 ∷ 0 ∷ 3 ∷ 0 ∷ 0 ∷ 3 ∷ 0 ∷ 0 ∷ 3 ∷ []))
    ∷ For 5 (Under (5 ∷ 3000 ∷ 20000 ∷ 0 ∷ 0 ∷ 3 ∷ 0 ∷ 0 ∷ 3 ∷ 0 ∷ 0 ∷ 3 ∷ 0 ∷ 0 ∷ 3 ∷ 0 ∷ 0 ∷ 3 ∷ []))
    ∷ [])
    (record { cells = cell 5818 0 3000 0 939 2819 574 ∷ cell 3276 0 1880 0 1 1397 580 ∷ cell 2066 0 1396 0 669 670 489 ∷ cell 1 0 1 0 0 0 0 ∷ cell 0 0 0 0 0 0 0 ∷ []; origin = 0; exit = 0 })
    -- nine segments of uneven kinds, remainders carried into a second sheet
    ∷ From
    (9 ∷ 182 ∷ 52 ∷ 2
    ∷ 425 ∷ 7 ∷ 30 ∷ 15400 ∷ 1800 ∷ 1000 ∷ 1
    ∷ 300 ∷ 2 ∷ 80 ∷ 656 ∷ 0 ∷ 100 ∷ 1
    ∷ 300 ∷ 3 ∷ 36 ∷ 15524 ∷ 4016 ∷ 100 ∷ 900
    ∷ 19550 ∷ 8 ∷ 50 ∷ 17600 ∷ 0 ∷ 0 ∷ 0
    ∷ 1320 ∷ 5 ∷ 59 ∷ 201 ∷ 1800 ∷ 333 ∷ 0
    ∷ 1320 ∷ 6 ∷ 83 ∷ 687 ∷ 0 ∷ 999 ∷ 900
    ∷ 25251 ∷ 4 ∷ 38 ∷ 8800 ∷ 0 ∷ 100 ∷ 1
    ∷ 1320 ∷ 7 ∷ 25 ∷ 844 ∷ 1800 ∷ 100 ∷ 900
    ∷ 17180 ∷ 3 ∷ 49 ∷ 6600 ∷ 1800 ∷ 999 ∷ 0
    ∷ [])
    (For 12 (Under (9 ∷ 0 ∷ 20000 ∷ 0 ∷ 9050 ∷ 7 ∷ 1902 ∷ 900 ∷ 2 ∷ 400 ∷ 10000 ∷ 3 ∷ 8131 ∷ 0 ∷ 8 ∷ 1270 ∷ 10000 ∷ 1 ∷ 400 ∷ 0 ∷ 6 ∷ 0 ∷ 900 ∷ 4 ∷ 400 ∷ 0 ∷ 7 ∷ 8343 ∷ 0 ∷ 1 ∷ []))
    ∷ For 12 (Under (9 ∷ 0 ∷ 20000 ∷ 0 ∷ 900 ∷ 4 ∷ 400 ∷ 0 ∷ 1 ∷ 400 ∷ 10000 ∷ 1 ∷ 5510 ∷ 2815 ∷ 8 ∷ 400 ∷ 3318 ∷ 1 ∷ 400 ∷ 900 ∷ 6 ∷ 400 ∷ 10000 ∷ 2 ∷ 0 ∷ 0 ∷ 2 ∷ 400 ∷ 900 ∷ 2 ∷ []))
    ∷ [])
    (record { cells = cell 0 0 0 0 0 0 0 ∷ cell 0 27624 0 0 0 0 0 ∷ cell 400 0 0 400 40 400 0 ∷ cell 7840 163692 360 0 0 20 0 ∷ cell 957 19520 20 20 0 0 999 ∷ cell 0 9600 0 0 0 0 997 ∷ cell 0 4800 0 0 0 0 100 ∷ cell 0 4800 0 0 0 0 100 ∷ cell 10800 94116 0 900 0 0 999 ∷ []; origin = 0; exit = 0 })
    ∷ []

-- every trace is what the rules give
every_trace : AllAgree traces
unfolding AllAgree Agrees traces after under laid cell stepped replaced main_flow_at queued_at main_wish_at split_of wish_of most_of onward_of queued_of ramp_wish_of entrance_of supply_of inflow_of leaving_of moved_of conditions_of demand_under outlet_under entry_under in_force values_to road_globals segment_of period_globals entry_of leaving main_flow ramp_flow supply entrance open_capacity lowered_by ramp_wish most_leaving through off remainder_after wish_to_leave parts_at rounded_up largest
every_trace = (refl, (refl, (refl, (refl, (refl, (refl, (refl, (refl, (refl, (refl, (refl, (refl, (refl, (refl, (refl, (refl, (refl, tt)))))))))))))))))
