-- What the arithmetic above the sheets asks of a road and a period, by name (the ranges of the layout): no rule of the manual.
use Rattle.std.specs.Prelude.{ℕ, ◌≤◌, ◌<◌, ◌≡◌, List}
use Rattle.parts.specs.declared.Segment.{Segment}
use Rattle.parts.specs.declared.Entry.{Entry}
use Rattle.parts.specs.Parts.{road_globals, segment_of, period_globals, entry_of}

pub record GoodSegment (s : Segment) : Type 0 where
  pub length : (300 ≤ s.length) × (s.length ≤ 26400)
  pub lanes : (1 ≤ s.lanes) × (s.lanes ≤ 8)
  pub speed : (15 ≤ s.speed) × (s.speed ≤ 85)
  pub capacity : (1 ≤ s.capacity) × (s.capacity ≤ 20000)
  pub onramp : s.onramp ≤ 10000
  pub share : s.share ≤ 1000
  pub offramp : s.offramp ≤ 10000

pub record GoodRoad (road : List ℕ) : Type 0 where
  pub segments : (1 ≤ (road_globals road).segments) × ((road_globals road).segments ≤ 64)
  pub jam : (100 ≤ (road_globals road).jam) × ((road_globals road).jam ≤ 300)
  pub critical : (30 ≤ (road_globals road).critical) × ((road_globals road).critical ≤ 60)
  pub cut : (road_globals road).cut ≤ 50
  pub segment : (i : ℕ) → i < (road_globals road).segments → GoodSegment (segment_of road i)

-- the entry of a period for the segment
pub record GoodEntry (s : Segment) (e : Entry) : Type 0 where
  pub demand : e.demand ≤ 10000
  pub meter : e.meter ≤ 10000
  pub opened : (1 ≤ e.opened) × (e.opened ≤ s.lanes)

pub record GoodPeriod (road period : List ℕ) : Type 0 where
  pub segments : (period_globals period).segments ≡ (road_globals road).segments
  pub demand : (period_globals period).demand ≤ 20000
  pub outlet : (period_globals period).outlet ≤ 20000
  pub entry : (i : ℕ) → i < (road_globals road).segments → GoodEntry (segment_of road i) (entry_of period i)
