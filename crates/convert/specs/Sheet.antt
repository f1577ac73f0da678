-- Manual 10.1: a period sheet in the other layout, from the first to the second with every lane open, and back.
use Rattle.std.specs.Prelude.{ℕ, zero, suc, ◌+◌, ◌-◌, ◌*◌, ◌/◌, ◌%◌, List, length, take, get_or, ltb, if◌then◌else◌}
use Rattle.numbers.specs.Row.{Rows, ReadRow, RefusedAt}
use Rattle.sheets.specs.declared.Layout.{Layout}
use Rattle.sheets.specs.declared.Layout.TheVariants.{Period, FirstPeriod}
use Rattle.sheets.specs.Layout.{lanes_of, opened_of, count_of}
use Rattle.sheets.specs.Read.{read_period, read_first_period}
use Rattle.sheets.specs.Write.{row_bytes}
use Rattle.conditions.specs.Values.{values_to}
use Rattle.convert.specs.declared.Way.{Way}
use Rattle.convert.specs.declared.Way.TheVariants.{ToSecond, ToFirst}

-- the number at the place k in the second layout, by the sheet's row in the first: NS, mainline demand and X; then of each segment ramp demand and
-- meter rate, and N, for every lane is open
unfoldable pub number_in_second : (road first : List ℕ) → ℕ → ℕ
number_in_second road first k =
    if ltb k 3 then get_or first k 0
    else if ltb ((k - 3) % 3) 2 then get_or first (3 + 2 * ((k - 3) / 3) + (k - 3) % 3) 0
    else lanes_of road ((k - 3) / 3)

-- and back: the open lanes are left out
unfoldable pub number_in_first : (second : List ℕ) → ℕ → ℕ
number_in_first second k = if ltb k 3 then get_or second k 0 else get_or second (3 + 3 * ((k - 3) / 2) + (k - 3) % 2) 0

-- by the way of the conversion
abbrev pub number_to : Way → (road row : List ℕ) → ℕ → ℕ
number_to ToSecond road row k = number_in_second road row k
number_to ToFirst road row k = number_in_first row k

-- the layout that a study has, by the way of its conversion
abbrev pub layout_from : Way → (ns : ℕ) → Layout
layout_from ToSecond ns = FirstPeriod ns
layout_from ToFirst ns = Period ns

-- and the layout that it leads to
abbrev pub layout_to : Way → (ns : ℕ) → Layout
layout_to ToSecond ns = Period ns
layout_to ToFirst ns = FirstPeriod ns

-- the sheet's row in the layout that the way leads to, by the road's NS, its first number
unfoldable pub converted_row : Way → (road row : List ℕ) → List ℕ
converted_row way road row = values_to (number_to way road row) (count_of (layout_to way (get_or road 0 0)))

-- the first of so many segments, counted from i on, that has a lane closed; the one behind them where none has
unfoldable pub first_closed : (road second : List ℕ) → (left i : ℕ) → ℕ
first_closed road second zero i = i
first_closed road second (suc left) i = if ltb (opened_of second i) (lanes_of road i) then i else first_closed road second left (i + 1)

-- the offset in the sheet of the open-lane number of segment i: the bytes of all numbers before it, for a number has its shortest form alone
unfoldable pub open_lanes_place : (second : List ℕ) → ℕ → ℕ
open_lanes_place second i = length (row_bytes (take (3 + 3 * i + 2) second))

-- a sheet that was read, in the other layout. Going back, 16 "when some segment has a lane closed, checked after the reading of that sheet, with
-- the offset of the first such number"
unfoldable pub converted_from : Way → (road row : List ℕ) → (used : ℕ) → Rows
converted_from ToSecond road row used = ReadRow (converted_row ToSecond road row) used
converted_from ToFirst road row used =
    if ltb (first_closed road row (get_or road 0 0) 0) (get_or road 0 0)
    then RefusedAt 16 (open_lanes_place row (first_closed road row (get_or road 0 0) 0))
    else ReadRow (converted_row ToFirst road row) used

-- by its reading: one that cannot be read keeps its refusal
abbrev pub converted_by : Way → (road : List ℕ) → Rows → Rows
converted_by way road (ReadRow row used) = converted_from way road row used
converted_by way road (RefusedAt number offset) = RefusedAt number offset

-- the sheet at the start of the bytes, in the layout that the study has
abbrev pub sheet_in : Way → (road bytes : List ℕ) → Rows
sheet_in ToSecond road bytes = read_first_period road bytes
sheet_in ToFirst road bytes = read_period road bytes

-- and in the other: its row there, with the bytes that its reading used
unfoldable pub converted_sheet : Way → (road bytes : List ℕ) → Rows
converted_sheet way road bytes = converted_by way road (sheet_in way road bytes)
