-- Manual 4.1, what is in force while a step is made: NS, the mainline demand, the exit capacity X, and at each segment the numbers that the
-- rules go by there. Here alone a road and a period sheet become conditions; those of the first rules (manual 10.2) stand in `first_rules`.
use Rattle.std.specs.Prelude.{ℕ, ◌-◌, ◌*◌, ◌/◌, min, List, get_or}
use Rattle.parts.specs.declared.RoadGlobals.{RoadGlobals}
use Rattle.parts.specs.declared.Segment.{Segment}
use Rattle.parts.specs.declared.Entry.{Entry}
use Rattle.parts.specs.Parts.{road_globals, segment_of, period_globals, entry_of}
use Rattle.conditions.specs.declared.InForce.{InForce}
use Rattle.conditions.specs.Values.{values_to}

-- the capacity with w of the N lanes open: C × w / N
unfoldable pub open_capacity : (capacity lanes opened : ℕ) → ℕ
open_capacity c n k = c * k / n

-- J = KJ × w × L / 22, the jam, from the jam density; Q = KC × w × L / 22, from the density at capacity; w are the open lanes
unfoldable pub parts_at : (density lanes length : ℕ) → ℕ
parts_at k n l = k * n * l / 22

-- the capacity behind a queue: C × (100 − A) / 100, C the capacity in force
unfoldable pub lowered_by : (cut capacity : ℕ) → ℕ
lowered_by a c = c * (100 - a) / 100

-- what is in force at a segment with so many lanes in force and this capacity, from the road's KJ, KC and A, the segment, and the meter rate
-- and ramp demand of its sheet: L, V, the lanes, the capacity, the same behind a queue, J, Q, the lesser of R and the meter rate, s, F and the
-- ramp demand
abbrev pub in_force_with : RoadGlobals → Segment → (lanes capacity meter demand : ℕ) → InForce
in_force_with g seg lanes capacity meter demand = record {
  length = seg.length;
  speed = seg.speed;
  lanes = lanes;
  capacity = capacity;
  lowered = lowered_by g.cut capacity;
  jam = parts_at g.jam lanes seg.length;
  critical = parts_at g.critical lanes seg.length;
  limit = min seg.onramp meter;
  share = seg.share;
  offramp = seg.offramp;
  demand = demand;
}

-- by the segment's entry in the sheet: the open lanes, and the capacity with these
unfoldable pub in_force : RoadGlobals → Segment → Entry → InForce
in_force g seg entry =
    in_force_with g seg entry.opened (open_capacity seg.capacity seg.lanes entry.opened) entry.meter entry.demand

-- the sheet in force: none before the first is taken
pub data SheetInForce : Type 0 where
  None : SheetInForce
  Under : List ℕ → SheetInForce

-- without a sheet nobody arrives, every ramp is held, the exit is shut, and the road's own lanes are open
unfoldable pub demand_under : SheetInForce → ℕ
demand_under None = 0
demand_under (Under period) = (period_globals period).demand

unfoldable pub outlet_under : SheetInForce → ℕ
outlet_under None = 0
outlet_under (Under period) = (period_globals period).outlet

unfoldable pub entry_under : (road : List ℕ) → SheetInForce → ℕ → Entry
entry_under road None i = record { demand = 0; meter = 0; opened = (segment_of road i).lanes }
entry_under road (Under period) i = entry_of period i

-- NS, the mainline demand, X, and what is in force at each segment
pub record Conditions : Type 0 where
  pub segments : ℕ
  pub demand : ℕ
  pub outlet : ℕ
  pub places : List InForce

-- NS of a road
abbrev pub segments : List ℕ → ℕ
segments road = (road_globals road).segments

-- what is in force at segment i, counted from 0, of a road under the sheet in force
abbrev pub in_force_of : List ℕ → SheetInForce → ℕ → InForce
in_force_of road sheet i = in_force (road_globals road) (segment_of road i) (entry_under road sheet i)

-- conditions, by what is in force at each segment of a road under the sheet in force
abbrev pub conditions_with : (ℕ → InForce) → List ℕ → SheetInForce → Conditions
conditions_with place road sheet = record {
  segments = segments road;
  demand = demand_under sheet;
  outlet = outlet_under sheet;
  places = values_to place (segments road);
}

-- the conditions of a road under the sheet in force, of the second layout
unfoldable pub conditions_of : List ℕ → SheetInForce → Conditions
conditions_of road sheet = conditions_with (in_force_of road sheet) road sheet

-- past the last segment nothing is in force
abbrev pub nothing_in_force : InForce
nothing_in_force = record { length = 0; speed = 0; lanes = 0; capacity = 0; lowered = 0; jam = 0; critical = 0; limit = 0; share = 0; offramp = 0; demand = 0 }

-- what is in force at segment i by the conditions
abbrev pub in_force_at : Conditions → ℕ → InForce
in_force_at c i = get_or c.places i nothing_in_force
