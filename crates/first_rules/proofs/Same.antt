-- With every lane open the present conditions are the first rules', and so is every step made under them.
use Prim.Native.Nat.{ℕ, ◌+◌, ◌-◌, ◌*◌, ◌/◌, ◌%◌, ◌≤◌, ◌<◌, min}
use mathlib.Core.Path.{◌≡◌, refl, sym, ap, ◌∙◌}
use mathlib.Core.List.{List}
use native.Mathlib.Omega.{arith}
use lib.ListN.{get_or}
use Rattle.sheets.specs.Layout.{lanes_of, opened_of, count_of}
use Rattle.sheets.specs.Read.{padded}
use Rattle.parts.specs.declared.RoadGlobals.{RoadGlobals}
use Rattle.parts.specs.declared.Segment.{Segment}
use Rattle.parts.specs.declared.Entry.{Entry}
use Rattle.parts.specs.Parts.{road_globals, segment_of, period_globals, entry_of}
use Rattle.conditions.specs.Conditions.{in_force_with, in_force, None, Under, demand_under, outlet_under, entry_under, in_force_of, conditions_of}
use Rattle.conditions.proofs.Values.{values_same}
use Rattle.conditions.proofs.Good.{open_whole}
use Rattle.convert.specs.declared.Way.TheVariants.{ToSecond}
use Rattle.convert.specs.Sheet.{number_in_second, converted_row}
use Rattle.convert.proofs.Rows.{Laned, by_second, converted_at, converted_open}
use Rattle.convert.proofs.Read.{padded_at}
use Rattle.first_rules.specs.First.{first_demand, first_meter, first_in_force, first_conditions}

-- ---- a segment
same_place : (g : RoadGlobals) (seg : Segment) (entry : Entry) (meter demand : ℕ) → 1 ≤ seg.lanes → entry.opened ≡ seg.lanes → entry.meter ≡ meter → entry.demand ≡ demand
    → in_force g seg entry ≡ in_force_with g seg seg.lanes seg.capacity meter demand
unfolding in_force
same_place g seg entry meter demand h o m d = rw (o, open_whole seg.capacity seg.lanes seg.lanes h refl, m, d)

-- a sheet of the second layout says what one of the first says, with every lane open
pub record Says (road first second : List ℕ) : Type 0 where
  pub demand : get_or second 1 0 ≡ get_or first 1 0
  pub outlet : get_or second 2 0 ≡ get_or first 2 0
  pub arrivals : (i : ℕ) → i < get_or road 0 0 → get_or second (3 + 3 * i) 0 ≡ get_or first (3 + 2 * i) 0
  pub meters : (i : ℕ) → i < get_or road 0 0 → get_or second (3 + 3 * i + 1) 0 ≡ get_or first (3 + 2 * i + 1) 0
  pub opened : (i : ℕ) → i < get_or road 0 0 → opened_of second i ≡ lanes_of road i

module _ (road : List ℕ) (laned : Laned road) where
  pub same_under : (first second : List ℕ) → Says road first second → conditions_of road (Under second) ≡ first_conditions road (Under first)
  unfolding conditions_of first_conditions demand_under outlet_under entry_under first_demand first_meter road_globals segment_of period_globals entry_of
  same_under first second s =
      let places =
      values_same (in_force_of road (Under second)) (first_in_force road (Under first)) (get_or road 0 0)
      (λ i h. same_place (road_globals road) (segment_of road i) (entry_of second i) (get_or first (3 + 2 * i + 1) 0) (get_or first (3 + 2 * i) 0)
      (laned.lanes i h).0 (s.opened i h) (s.meters i h) (s.arrivals i h)) in
      rw (s.demand, s.outlet, places)

  pub same_none : conditions_of road None ≡ first_conditions road None
  unfolding conditions_of first_conditions demand_under outlet_under entry_under first_demand first_meter road_globals segment_of
  same_none =
      let places =
      values_same (in_force_of road None) (first_in_force road None) (get_or road 0 0)
      (λ i h. same_place (road_globals road) (segment_of road i) (entry_under road None i) 0 0 (laned.lanes i h).0 refl refl refl) in
      rw places

  -- a sheet that is converted says the same
  number_of : (row : List ℕ) (k m : ℕ) → k < 3 + 3 * min (get_or road 0 0) 64 → (k < 3 → m ≡ k) → (3 ≤ k → ((k - 3) % 3 < 2) × (m ≡ 3 + 2 * ((k - 3) / 3) + (k - 3) % 3))
      → get_or (padded (converted_row ToSecond road row)) k 0 ≡ get_or (padded row) m 0
  unfolding count_of number_in_second
  number_of row k m h small large =
      padded_at (converted_row ToSecond road row) k
      ∙ converted_at ToSecond road row k h
      ∙ by_second (λ v. v ≡ get_or row m 0) k _ _ _ (λ l. ap (λ (x : ℕ). get_or row x 0) (sym (small l)))
      (λ l j. ap (λ (x : ℕ). get_or row x 0) (sym (large l).1)) (λ l j. absurd (omega (arith, (large l).0)))
      ∙ sym (padded_at row m)

  pub converted_says : (row : List ℕ) → Says road (padded row) (padded (converted_row ToSecond road row))
  converted_says row = record {
    demand = number_of row 1 1 (omega arith) (λ l. refl) (λ l. absurd (omega arith));
    outlet = number_of row 2 2 (omega arith) (λ l. refl) (λ l. absurd (omega arith));
    arrivals = λ i h. number_of row (3 + 3 * i) (3 + 2 * i) (omega (arith, laned.segments.1)) (λ l. absurd (omega arith)) (λ l. (omega arith, omega arith));
    meters = λ i h. number_of row (3 + 3 * i + 1) (3 + 2 * i + 1) (omega (arith, laned.segments.1)) (λ l. absurd (omega arith)) (λ l. (omega arith, omega arith));
    opened = λ i h. padded_at (converted_row ToSecond road row) (3 + 3 * i + 2) ∙ converted_open road row laned i h;
  }
