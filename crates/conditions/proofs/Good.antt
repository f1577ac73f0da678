-- The conditions of a good road under a good sheet are good.
use Prim.Native.Nat.{ℕ, suc, ◌*◌, ◌≤◌, ◌<◌}
use mathlib.Core.Path.{◌≡◌, refl}
use mathlib.Core.List.{List}
use native.Mathlib.Nat.{mul-le-mul, mul-le-mul_left, mul-le-mul_right, sub-le, le_trans, mul-div_cancel, div-lt_iff_lt-mul}
use native.Mathlib.Omega.{arith}
use Rattle.parts.specs.declared.RoadGlobals.{RoadGlobals}
use Rattle.parts.specs.declared.Segment.{Segment}
use Rattle.parts.specs.declared.Entry.{Entry}
use Rattle.parts.specs.Parts.{road_globals, segment_of}
use Rattle.parts.specs.Good.{GoodSegment, GoodRoad, GoodEntry, GoodPeriod}
use Rattle.conditions.proofs.Values.{values_at}
use Rattle.conditions.specs.Conditions.{open_capacity, parts_at, lowered_by, in_force, SheetInForce, None, Under, demand_under, outlet_under, entry_under, segments, in_force_of, conditions_of, in_force_at}
use Rattle.conditions.specs.Good.{GoodPlace, GoodConditions, GoodGlobals}

-- the sheet in force is one of the road's
pub data GoodSheet (road : List ℕ) : SheetInForce → Type 0 where
  none : GoodSheet road None
  under : {period : List ℕ} → GoodPeriod road period → GoodSheet road (Under period)

-- ---- the capacity with open lanes, J, Q and the lowered capacity
-- with all lanes open it is C
pub open_whole : (c n k : ℕ) → 1 ≤ n → k ≡ n → open_capacity c n k ≡ c
unfolding open_capacity
open_whole c n k a e = rw (e, mul-div_cancel c a)

pub open_most : (c n k : ℕ) → 1 ≤ n → k ≤ n → open_capacity c n k ≤ c
unfolding open_capacity
open_most c n k a b =
    let d = div-lt_iff_lt-mul {k = n} {x = c * k} {y = suc c} a in
    omega (arith, d.1 (omega (arith, mul-le-mul_left c b)))

lane_feet_least : (n l : ℕ) → 1 ≤ n → 300 ≤ l → 1 * 300 ≤ n * l
lane_feet_least n l a b = mul-le-mul a b

product : (k n l : ℕ) → k * n * l ≡ k * (n * l)
product k n l = omega arith

pub parts_most : (k n l : ℕ) → k ≤ 300 → n ≤ 8 → l ≤ 26400 → parts_at k n l ≤ 2880000
unfolding parts_at
parts_most k n l a b c = omega (arith, mul-le-mul (mul-le-mul a b) c)

-- Q is below J
pub critical_below_jam : (kj kc n l : ℕ) → 100 ≤ kj → kc ≤ 60 → 1 ≤ n → 300 ≤ l → parts_at kc n l < parts_at kj n l
unfolding parts_at
critical_below_jam kj kc n l a b c d =
    omega
    (arith, product kj n l, product kc n l, mul-le-mul_right (n * l) a, mul-le-mul_right (n * l) b, lane_feet_least n l c d)

pub lowered_most : (a c : ℕ) → lowered_by a c ≤ c
unfolding lowered_by
lowered_most a c = omega (arith, mul-le-mul_left c (sub-le 100 a))

-- ---- what is in force at a segment
pub good_globals : (road : List ℕ) → GoodRoad road → GoodGlobals (road_globals road)
good_globals road good = record { jam = good.jam; critical = good.critical; cut = good.cut }

pub good_place : (g : RoadGlobals) (seg : Segment) (entry : Entry) → GoodGlobals g → GoodSegment seg → GoodEntry seg entry
    → GoodPlace (in_force g seg entry)
unfolding in_force
good_place g seg entry a b d = record {
  length = (omega (arith, b.length.0), b.length.1);
  speed = (omega (arith, b.speed.0), b.speed.1);
  lanes = (omega (arith, d.opened.0), omega (arith, d.opened.1, b.lanes.1));
  capacity = le_trans (open_most _ _ _ b.lanes.0 (omega (arith, d.opened.1))) b.capacity.1;
  lowered = lowered_most _ _;
  -- any density of the road is at most 300
  jam = parts_most _ _ _ (omega (arith, a.jam.1, a.critical.1)) (omega (arith, d.opened.1, b.lanes.1)) b.length.1;
  critical = critical_below_jam _ _ _ _ a.jam.0 a.critical.1 (omega (arith, d.opened.0)) b.length.0;
  limit = omega (arith, b.onramp);
  share = b.share;
  offramp = b.offramp;
  demand = d.demand;
}

-- ---- the conditions of a road under a sheet
pub conditions_segments : (road : List ℕ) (sheet : SheetInForce) → (conditions_of road sheet).segments ≡ segments road
unfolding conditions_of
conditions_segments road sheet = refl

pub in_force_at_lem : (road : List ℕ) (sheet : SheetInForce) (i : ℕ) →
    i < segments road →
    in_force_at (conditions_of road sheet) i ≡ in_force_of road sheet i
unfolding conditions_of
in_force_at_lem road sheet i h = values_at _ _ i _ h

-- the entry of the sheet in force; without a sheet, the road's own lanes
entry_good : (road : List ℕ) (sheet : SheetInForce) → GoodRoad road → GoodSheet road sheet → (i : ℕ) → i < segments road
    → GoodEntry (segment_of road i) (entry_under road sheet i)
unfolding entry_under
entry_good road _ good none i h = record { demand = omega arith; meter = omega arith; opened = ((good.segment i h).lanes.0, omega arith) }
entry_good road _ good (under p) i h = p.entry i h

flows_good : (road : List ℕ) (sheet : SheetInForce) → GoodSheet road sheet → (demand_under sheet ≤ 20000) × (outlet_under sheet ≤ 20000)
unfolding demand_under outlet_under
flows_good road _ none = (omega arith, omega arith)
flows_good road _ (under p) = (p.demand, p.outlet)

pub good_conditions : (road : List ℕ) (sheet : SheetInForce) → GoodRoad road → GoodSheet road sheet → GoodConditions (conditions_of road sheet)
unfolding conditions_of
good_conditions road sheet good fits = record {
  segments = good.segments;
  demand = (flows_good road sheet fits).0;
  outlet = (flows_good road sheet fits).1;
  place = λ i h.
      rw (values_at (in_force_of road sheet) (segments road) i)
      (good_place _ _ _ (good_globals road good) (good.segment i h) (entry_good road sheet good fits i h));
}
