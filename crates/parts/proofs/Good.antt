-- A row that is allowed is good, and a row that was read is allowed.
use Prim.Native.Nat.{ℕ, ◌+◌, ◌*◌, ◌≤◌, ◌<◌, min}
use mathlib.Core.Path.{◌≡◌, refl}
use mathlib.Core.Bool.{true}
use mathlib.Core.List.{List, [], ◌∷◌}
use native.Mathlib.Nat.{add-zero}
use native.Mathlib.Omega.{arith}
use lib.ListN.{length, get_or}
use Rattle.numbers.specs.Field.{In}
use Rattle.sheets.specs.declared.Layout.{Layout}
use Rattle.sheets.specs.declared.Layout.TheVariants.{Road, Period}
use Rattle.sheets.specs.Layout.{no_range, segment_table, road_table, road_range, entry_table, lanes_of, period_range, range_of, count_of, RowOf}
use Rattle.numbers.proofs.Rows.{each_padded}
use Rattle.numbers.specs.Row.{ReadRow}
use Rattle.sheets.specs.Read.{read_road, read_period, padded}
use Rattle.parts.specs.Parts.{road_globals, segment_of, period_globals, entry_of}
use Rattle.parts.specs.Allowed.{allowed, road_allowed, period_allowed}
use Rattle.parts.proofs.Allowed.{allowed_at_lem, allowed_by}
use Rattle.parts.proofs.Groups.{segment_range_at, entry_range_at}
use Rattle.sheets.proofs.Ranges.{count_some, road_first, period_first, period_flow}
use Rattle.sheets.proofs.Round.{road_ranged, period_ranged}
use Rattle.parts.specs.Good.{GoodSegment, GoodRoad, GoodEntry, GoodPeriod}

-- ---- these hold of every row that is allowed
road_place : (road : List ℕ) (k : ℕ) → road_allowed road ≡ true → k < count_of (Road (get_or road 0 0)) → In (road_range k) (get_or road k 0)
unfolding road_allowed range_of
road_place road k e h = allowed_at_lem (Road (get_or road 0 0)) [] road k e h

-- the place j of segment i
segment_place : (road : List ℕ) (i j : ℕ) → road_allowed road ≡ true → i < min (get_or road 0 0) 64 → j < 7
    → In (get_or segment_table j no_range) (get_or road (4 + 7 * i + j) 0)
unfolding count_of
segment_place road i j e h small =
    rw (← segment_range_at i j small) (road_place road (4 + 7 * i + j) e (omega arith))

good_segment : (road : List ℕ) (i : ℕ) → road_allowed road ≡ true → i < min (get_or road 0 0) 64 → GoodSegment (segment_of road i)
unfolding segment_of
good_segment road i e h =
    let at : (j : ℕ) → j < 7 → In (get_or segment_table j no_range) (get_or road (4 + 7 * i + j) 0) = λ j small. segment_place road i j e h small in
    record {
      length = rw add-zero at (at 0 (omega arith));
      lanes = at 1 (omega arith);
      speed = at 2 (omega arith);
      capacity = at 3 (omega arith);
      onramp = (at 4 (omega arith)).1;
      share = (at 5 (omega arith)).1;
      offramp = (at 6 (omega arith)).1;
    }

pub good_road : (road : List ℕ) → road_allowed road ≡ true → GoodRoad road
unfolding road_globals count_of
good_road road e =
    let at : (k : ℕ) → k < 4 → In (get_or road_table k no_range) (get_or road k 0) = λ k h. rw (road_first k h) at (road_place road k e (omega arith)) in
    record {
      segments = at 0 (omega arith);
      jam = at 1 (omega arith);
      critical = at 2 (omega arith);
      cut = (at 3 (omega arith)).1;
      segment = λ i h. good_segment road i e (omega (arith, at 0 (omega arith)));
    }

period_place : (road period : List ℕ) (k : ℕ) → period_allowed road period ≡ true → k < count_of (Period (get_or road 0 0))
    → In (period_range (get_or road 0 0) road k) (get_or period k 0)
unfolding period_allowed range_of
period_place road period k e h = allowed_at_lem (Period (get_or road 0 0)) road period k e h

-- the number j of segment i's entry
entry_place : (road period : List ℕ) (i j : ℕ) → period_allowed road period ≡ true → i < min (get_or road 0 0) 64 → j < 3
    → In (get_or (entry_table (lanes_of road i)) j no_range) (get_or period (3 + 3 * i + j) 0)
unfolding count_of
entry_place road period i j e h small =
    rw (← entry_range_at (get_or road 0 0) road i j small) (period_place road period (3 + 3 * i + j) e (omega arith))

good_entry : (road period : List ℕ) (i : ℕ) → period_allowed road period ≡ true → i < min (get_or road 0 0) 64 → GoodEntry (segment_of road i) (entry_of period i)
unfolding segment_of entry_of
good_entry road period i e h = record {
  demand = (rw add-zero at (entry_place road period i 0 e h (omega arith))).1;
  meter = (entry_place road period i 1 e h (omega arith)).1;
  opened = entry_place road period i 2 e h (omega arith);
}

pub good_period : (road period : List ℕ) → GoodRoad road → period_allowed road period ≡ true → GoodPeriod road period
unfolding road_globals period_globals count_of
good_period road period g e =
    let ns = get_or road 0 0 in
    let first = rw (period_first ns road 0 refl) at (period_place road period 0 e (omega arith)) in
    let flow : (k : ℕ) → (k ≡ 0 → ⊥) → k < 3 → get_or period k 0 ≤ 20000 =
    λ k n h. (rw (period_flow ns road k n h) at (period_place road period k e (omega arith))).1 in
    record {
      segments = omega (arith, first.0, first.1);
      demand = flow 1 (λ z. omega arith) (omega arith);
      outlet = flow 2 (λ z. omega arith) (omega arith);
      entry = λ i h. good_entry road period i e (omega (arith, g.segments));
    }

-- ---- and every row that a reading gives is allowed
padded_allowed : (l : Layout) (road row : List ℕ) → RowOf l road row → allowed l road (padded row) ≡ true
padded_allowed l road row r =
    allowed_by l road (padded row) (λ k h. each_padded (λ k v. In (range_of l road k) v) 452 row r.1 k (omega (arith, r.0)))

-- the first number of a row is its padded row's
first_padded : (l : Layout) (row : List ℕ) → length row ≡ count_of l → get_or (padded row) 0 0 ≡ get_or row 0 0
first_padded l [] h = absurd (omega (arith, h, count_some l))
first_padded l (v ∷ row) h = refl

pub read_road_allowed : (s row : List ℕ) (used : ℕ) → read_road s ≡ ReadRow row used → road_allowed (padded row) ≡ true
unfolding road_allowed
read_road_allowed s row used e =
    let r = road_ranged s row used e in
    rw (first_padded (Road (get_or row 0 0)) row r.0) (padded_allowed (Road (get_or row 0 0)) [] row r)

pub read_period_allowed : (road s row : List ℕ) (used : ℕ) → read_period road s ≡ ReadRow row used → period_allowed road (padded row) ≡ true
unfolding period_allowed
read_period_allowed road s row used e = padded_allowed (Period (get_or road 0 0)) road row (period_ranged road s row used e).0
