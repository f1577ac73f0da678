-- Manual 3.3 and 3.4: the numbers of a road and of a period by name.
use Rattle.std.specs.Prelude.{ℕ, ◌+◌, ◌*◌, List, get_or}
use Rattle.sheets.specs.Layout.{lanes_of, opened_of}
use Rattle.parts.specs.declared.RoadGlobals.{RoadGlobals}
use Rattle.parts.specs.declared.Segment.{Segment}
use Rattle.parts.specs.declared.PeriodGlobals.{PeriodGlobals}
use Rattle.parts.specs.declared.Entry.{Entry}

-- NS, KJ, KC, A
unfoldable pub road_globals : List ℕ → RoadGlobals
road_globals road = record {
  segments = get_or road 0 0;
  jam = get_or road 1 0;
  critical = get_or road 2 0;
  cut = get_or road 3 0;
}

-- L, N, V, C, R, s, F of the segment i, counted from 0
unfoldable pub segment_of : List ℕ → ℕ → Segment
segment_of road i = record {
  length = get_or road (4 + 7 * i) 0;
  lanes = lanes_of road i;
  speed = get_or road (4 + 7 * i + 2) 0;
  capacity = get_or road (4 + 7 * i + 3) 0;
  onramp = get_or road (4 + 7 * i + 4) 0;
  share = get_or road (4 + 7 * i + 5) 0;
  offramp = get_or road (4 + 7 * i + 6) 0;
}

-- NS, mainline demand, X
unfoldable pub period_globals : List ℕ → PeriodGlobals
period_globals period = record { segments = get_or period 0 0; demand = get_or period 1 0; outlet = get_or period 2 0 }

-- the entry of segment i, counted from 0: ramp demand, meter rate, open lanes
unfoldable pub entry_of : List ℕ → ℕ → Entry
entry_of period i = record {
  demand = get_or period (3 + 3 * i) 0;
  meter = get_or period (3 + 3 * i + 1) 0;
  opened = opened_of period i;
}
