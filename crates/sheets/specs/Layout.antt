-- Manual 3.3 to 3.5, the road sheet and the period sheet in its two layouts: how many numbers each has, and the range of each place.
use Rattle.std.specs.Prelude.{ℕ, ◌+◌, ◌-◌, ◌*◌, ◌/◌, ◌%◌, min, max, List, [], ◌∷◌, get_or, length, ltb, eqb, ◌≡◌, if◌then◌else◌}
use Rattle.refusals.specs.declared.Refusal.TheVariants.{OutOfRange, OtherRoad}
use Rattle.numbers.specs.declared.Range.{Range}
use Rattle.sheets.specs.declared.Layout.{Layout}
use Rattle.sheets.specs.declared.Layout.TheVariants.{Road, Period, FirstPeriod}
use Rattle.numbers.specs.Field.{In}
use Rattle.numbers.specs.Row.{Each}

-- low .. high, else refusal 4
infix 70 ◌to◌
abbrev pub ◌to◌ : ℕ → ℕ → Range
low to high = record { low = low; high = high; refusal = OutOfRange }

-- past a table's end
abbrev pub no_range : Range
no_range = record { low = 0; high = 0; refusal = OutOfRange }

-- length L, lanes N, free-flow speed V, capacity C, on-ramp capacity R, off-ramp share s, off-ramp capacity F
abbrev pub segment_table : List Range
segment_table = 300 to 26400 ∷ 1 to 8 ∷ 15 to 85 ∷ 1 to 20000 ∷ 0 to 10000 ∷ 0 to 1000 ∷ 0 to 10000 ∷ []

-- NS, jam density KJ, density at capacity KC, capacity drop A
abbrev pub road_table : List Range
road_table = 1 to 64 ∷ 100 to 300 ∷ 30 to 60 ∷ 0 to 50 ∷ []

-- the range of each place of a road
unfoldable pub road_range : ℕ → Range
road_range k = if ltb k 4 then get_or road_table k no_range else get_or segment_table ((k - 4) % 7) no_range

-- NS, which is the road's, else refusal 14; a road whose own NS is outside 1..64 has no period
abbrev pub same_segments : ℕ → Range
same_segments ns = record { low = max 1 ns; high = min ns 64; refusal = OtherRoad }

-- a segment's entry in a period: ramp demand, meter rate, and open lanes, 1..N
abbrev pub entry_table : (lanes : ℕ) → List Range
entry_table n = 0 to 10000 ∷ 0 to 10000 ∷ 1 to n ∷ []

-- N of segment i of a road, counted from 0
abbrev pub lanes_of : (road : List ℕ) → ℕ → ℕ
lanes_of road i = get_or road (4 + 7 * i + 1) 0

-- the open lanes of segment i in a period, counted from 0
abbrev pub opened_of : (period : List ℕ) → ℕ → ℕ
opened_of period i = get_or period (3 + 3 * i + 2) 0

-- NS; mainline demand and exit capacity X; then the entry of each segment, by N of that segment of the road
unfoldable pub period_range : ℕ → (road : List ℕ) → ℕ → Range
period_range ns road k =
    if eqb k 0 then same_segments ns
    else if ltb k 3 then 0 to 20000
    else get_or (entry_table (lanes_of road ((k - 3) / 3))) ((k - 3) % 3) no_range

-- a period in the first layout, without open lanes: NS, mainline demand and X as above, then ramp demand and meter rate of each segment
unfoldable pub first_range : ℕ → (road : List ℕ) → ℕ → Range
first_range ns road k = if ltb k 3 then period_range ns road k else 0 to 10000

-- the range of the place k: a period's by NS and by its road, a road's own by no road
unfoldable pub range_of : Layout → (road : List ℕ) → ℕ → Range
range_of (Road ns) road k = road_range k
range_of (Period ns) road k = period_range ns road k
range_of (FirstPeriod ns) road k = first_range ns road k

-- how many numbers; no sheet has more than 64 segments
unfoldable pub count_of : Layout → ℕ
count_of (Road ns) = 4 + 7 * min ns 64
count_of (Period ns) = 3 + 3 * min ns 64
count_of (FirstPeriod ns) = 3 + 2 * min ns 64

-- a row of the layout: so many numbers, each in the range of its place
abbrev pub RowOf : Layout → (road row : List ℕ) → Type 0
RowOf l road row = (length row ≡ count_of l) × Each (λ k v. In (range_of l road k) v) 0 row
