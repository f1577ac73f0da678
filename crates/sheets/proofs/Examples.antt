-- Worked sheets, computed.
use mathlib.Core.Path.{◌≡◌, refl}
use Prim.Native.Nat.{ℕ}
use mathlib.Core.List.{List, [], ◌∷◌}
use Rattle.numbers.specs.Number.{read_number, groups, last, more, placed, number_bytes, bytes_from}
use Rattle.numbers.specs.Field.{in_range, read_field}
use Rattle.sheets.specs.Layout.{road_range, period_range, first_range, range_of, count_of}
use Rattle.numbers.specs.Row.{ReadRow, RefusedAt, onto, and_then, fields}
use Rattle.sheets.specs.Read.{read_row, road_from, read_road, read_period, read_first_period}
use Rattle.sheets.specs.Write.{row_bytes}

-- the worked study's road and period
road : List ℕ
road = 0x01 ∷ 0xBE ∷ 0x01 ∷ 0x2D ∷ 0x07 ∷ 0xA8 ∷ 0x0A ∷ 0x02 ∷ 0x3C ∷ 0xB0 ∷ 0x22 ∷ 0x00 ∷ 0x00 ∷ 0x00 ∷ []

period : List ℕ
period = 0x01 ∷ 0xC0 ∷ 0x25 ∷ 0x90 ∷ 0x4E ∷ 0x00 ∷ 0x00 ∷ 0x02 ∷ []

-- the road's numbers
numbers : List ℕ
numbers = 1 ∷ 190 ∷ 45 ∷ 7 ∷ 1320 ∷ 2 ∷ 60 ∷ 4400 ∷ 0 ∷ 0 ∷ 0 ∷ []

road_reads : read_road road ≡ ReadRow numbers 14
unfolding road numbers read_road road_from read_row fields and_then onto read_field in_range range_of count_of road_range read_number groups last more placed
road_reads = refl

period_reads : read_period numbers period ≡ ReadRow (1 ∷ 4800 ∷ 10000 ∷ 0 ∷ 0 ∷ 2 ∷ []) 8
unfolding numbers period read_period read_row fields and_then onto read_field in_range range_of count_of period_range read_number groups last more placed
period_reads = refl

-- at least one lane is open, at most all of the segment's own, and a period without open lanes ends too early
none_open : read_period numbers (0x01 ∷ 0xC0 ∷ 0x25 ∷ 0x90 ∷ 0x4E ∷ 0x00 ∷ 0x00 ∷ 0x00 ∷ []) ≡ RefusedAt 4 7
unfolding numbers read_period read_row fields and_then onto read_field in_range range_of count_of period_range read_number groups last more placed
none_open = refl

three_of_two_open : read_period numbers (0x01 ∷ 0xC0 ∷ 0x25 ∷ 0x90 ∷ 0x4E ∷ 0x00 ∷ 0x00 ∷ 0x03 ∷ []) ≡ RefusedAt 4 7
unfolding numbers read_period read_row fields and_then onto read_field in_range range_of count_of period_range read_number groups last more placed
three_of_two_open = refl

first_layout : read_period numbers (0x01 ∷ 0xC0 ∷ 0x25 ∷ 0x90 ∷ 0x4E ∷ 0x00 ∷ 0x00 ∷ []) ≡ RefusedAt 1 7
unfolding numbers read_period read_row fields and_then onto read_field in_range range_of count_of period_range read_number groups last more placed
first_layout = refl

-- in the first layout it is read whole, and one with open lanes has a byte more than its reading uses
in_first_layout : read_first_period numbers (0x01 ∷ 0xC0 ∷ 0x25 ∷ 0x90 ∷ 0x4E ∷ 0x00 ∷ 0x00 ∷ []) ≡ ReadRow (1 ∷ 4800 ∷ 10000 ∷ 0 ∷ 0 ∷ []) 7
unfolding numbers read_first_period read_row fields and_then onto read_field in_range range_of count_of period_range first_range read_number groups last more placed
in_first_layout = refl

open_lanes_left : read_first_period numbers period ≡ ReadRow (1 ∷ 4800 ∷ 10000 ∷ 0 ∷ 0 ∷ []) 7
unfolding numbers period read_first_period read_row fields and_then onto read_field in_range range_of count_of period_range first_range read_number groups last more placed
open_lanes_left = refl

meter_too_large : read_first_period numbers (0x01 ∷ 0xC0 ∷ 0x25 ∷ 0x90 ∷ 0x4E ∷ 0x00 ∷ 0x91 ∷ 0x4E ∷ []) ≡ RefusedAt 4 6
unfolding numbers read_first_period read_row fields and_then onto read_field in_range range_of count_of period_range first_range read_number groups last more placed
meter_too_large = refl

-- a segment of two lanes and one of four: both may be open whole, each by its own N
own_lanes :
    read_period (2 ∷ 190 ∷ 45 ∷ 7 ∷ 1320 ∷ 2 ∷ 60 ∷ 4400 ∷ 0 ∷ 0 ∷ 0 ∷ 1320 ∷ 4 ∷ 60 ∷ 8800 ∷ 0 ∷ 0 ∷ 0 ∷ [])
    (0x02 ∷ 0x00 ∷ 0x00 ∷ 0x00 ∷ 0x00 ∷ 0x02 ∷ 0x00 ∷ 0x00 ∷ 0x04 ∷ []) ≡
    ReadRow (2 ∷ 0 ∷ 0 ∷ 0 ∷ 0 ∷ 2 ∷ 0 ∷ 0 ∷ 4 ∷ []) 9
unfolding read_period read_row fields and_then onto read_field in_range range_of count_of period_range read_number groups last more placed
own_lanes = refl

road_writes : row_bytes numbers ≡ road
unfolding road numbers row_bytes number_bytes bytes_from
road_writes = refl

no_lanes : read_road (0x01 ∷ 0xBE ∷ 0x01 ∷ 0x2D ∷ 0x07 ∷ 0xA8 ∷ 0x0A ∷ 0x00 ∷ 0x3C ∷ []) ≡ RefusedAt 4 7
unfolding read_road road_from read_row fields and_then onto read_field in_range range_of count_of road_range read_number groups last more placed
no_lanes = refl

other_road : read_period (2 ∷ []) period ≡ RefusedAt 14 0
unfolding period read_period read_row fields and_then onto read_field in_range range_of count_of period_range read_number groups last more placed
other_road = refl
