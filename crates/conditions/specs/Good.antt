-- What the step's arithmetic asks of conditions: no rule of the manual.
use Rattle.std.specs.Prelude.{ℕ, ◌≤◌, ◌<◌}
use Rattle.parts.specs.declared.RoadGlobals.{RoadGlobals}
use Rattle.conditions.specs.declared.InForce.{InForce}
use Rattle.conditions.specs.Conditions.{Conditions, in_force_at}

-- at a segment; 2,880,000 = 300 × 8 × 26,400 / 22 is the largest J
pub record GoodPlace (here : InForce) : Type 0 where
  pub length : (1 ≤ here.length) × (here.length ≤ 26400)
  pub speed : (1 ≤ here.speed) × (here.speed ≤ 85)
  pub lanes : (1 ≤ here.lanes) × (here.lanes ≤ 8)
  pub capacity : here.capacity ≤ 20000
  pub lowered : here.lowered ≤ here.capacity
  pub jam : here.jam ≤ 2880000
  pub critical : here.critical < here.jam
  pub limit : here.limit ≤ 10000
  pub share : here.share ≤ 1000
  pub offramp : here.offramp ≤ 10000
  pub demand : here.demand ≤ 10000

-- at all segments
pub record GoodConditions (c : Conditions) : Type 0 where
  pub segments : (1 ≤ c.segments) × (c.segments ≤ 64)
  pub demand : c.demand ≤ 20000
  pub outlet : c.outlet ≤ 20000
  pub place : (i : ℕ) → i < c.segments → GoodPlace (in_force_at c i)

-- the road's KJ, KC and A in their ranges
pub record GoodGlobals (g : RoadGlobals) : Type 0 where
  pub jam : (100 ≤ g.jam) × (g.jam ≤ 300)
  pub critical : (30 ≤ g.critical) × (g.critical ≤ 60)
  pub cut : g.cut ≤ 50
