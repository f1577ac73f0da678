-- Worked studies, computed: conversions with their refusals and offsets, and the call on targets that are long enough and too short.
use mathlib.Core.Path.{◌≡◌, refl}
use Prim.Native.Nat.{ℕ}
use mathlib.Core.List.{List, [], ◌∷◌, ◌++◌}
use lib.ListN.{replicate}
use Rattle.numbers.specs.Number.{read_number, groups, last, more, placed, number_bytes, bytes_from}
use Rattle.numbers.specs.Field.{in_range, read_field}
use Rattle.numbers.specs.Row.{onto, and_then, fields}
use Rattle.numbers.specs.Writing.{room_at, write_answer, write_into}
use Rattle.sheets.specs.Layout.{road_range, period_range, first_range, range_of, count_of}
use Rattle.sheets.specs.Read.{read_row, road_from, read_road, read_period, read_first_period}
use Rattle.sheets.specs.Write.{row_bytes, rows_bytes}
use Rattle.conditions.specs.Values.{values_to}
use Rattle.convert.specs.declared.Way.{Way}
use Rattle.convert.specs.declared.Way.TheVariants.{ToSecond, ToFirst}
use Rattle.convert.specs.Sheet.{number_in_second, number_in_first, converted_row, first_closed, open_lanes_place, converted_from, converted_sheet}
use Rattle.convert.specs.Convert.{onto_sheets, and_sheets, sheets_from, Conversion, Converted, Unconverted, behind, conversion_of, Written, RefusedAs, convert_of}

-- the worked study's road, its sheet in the first layout, and in the second
road : List ℕ
road = 0x01 ∷ 0xBE ∷ 0x01 ∷ 0x2D ∷ 0x07 ∷ 0xA8 ∷ 0x0A ∷ 0x02 ∷ 0x3C ∷ 0xB0 ∷ 0x22 ∷ 0x00 ∷ 0x00 ∷ 0x00 ∷ []

sheet : List ℕ
sheet = 0x01 ∷ 0xC0 ∷ 0x25 ∷ 0x90 ∷ 0x4E ∷ 0x00 ∷ 0x00 ∷ []

opened : List ℕ
opened = 0x01 ∷ 0xC0 ∷ 0x25 ∷ 0x90 ∷ 0x4E ∷ 0x00 ∷ 0x00 ∷ 0x02 ∷ []

-- a road of a segment of two lanes and one of three, and a sheet with all lanes open
pair : List ℕ
pair = 0x02 ∷ 0xBE ∷ 0x01 ∷ 0x2D ∷ 0x07 ∷ 0xD0 ∷ 0x14 ∷ 0x02 ∷ 0x3C ∷ 0xC8 ∷ 0x33 ∷ 0x00 ∷ 0x00 ∷ 0x00 ∷ 0xD0 ∷ 0x14 ∷ 0x03 ∷ 0x3C ∷ 0xC8 ∷ 0x33 ∷ 0x00 ∷ 0x00 ∷ 0x00 ∷ []

both_open : List ℕ
both_open = 0x02 ∷ 0x64 ∷ 0xA0 ∷ 0x9C ∷ 0x01 ∷ 0x00 ∷ 0x00 ∷ 0x02 ∷ 0x00 ∷ 0x00 ∷ 0x03 ∷ []

-- a study, where it is led, and what it comes to
record Case : Type 0 where
  way : Way
  study : List ℕ
  gives : Conversion

Agrees : Case → Type 0
Agrees c = conversion_of c.way c.study ≡ c.gives

AllAgree : List Case → Type 0
AllAgree [] = Unit {0}
AllAgree (c ∷ cs) = Agrees c × AllAgree cs

cases : List Case
cases =
    -- the worked study, there and back
    record { way = ToSecond; study = road ++ sheet; gives = Converted (road ++ opened) }
    ∷ record { way = ToFirst; study = road ++ opened; gives = Converted (road ++ sheet) }
    -- no road; a road alone, which converts to itself; another road's sheet
    ∷ record { way = ToSecond; study = []; gives = Unconverted 1 0 }
    ∷ record { way = ToSecond; study = road; gives = Converted road }
    ∷ record { way = ToFirst; study = road; gives = Converted road }
    ∷ record { way = ToSecond; study = pair ++ sheet; gives = Unconverted 14 23 }
    -- both segments have a lane closed; the second alone, in the second sheet; the same, with a bad sheet behind it
    ∷ record { way = ToFirst; study = pair ++ (0x02 ∷ 0x64 ∷ 0xA0 ∷ 0x9C ∷ 0x01 ∷ 0x00 ∷ 0x00 ∷ 0x01 ∷ 0x00 ∷ 0x00 ∷ 0x01 ∷ []); gives = Unconverted 16 30 }
    ∷ record { way = ToFirst; study = pair ++ (both_open ++ (0x02 ∷ 0x64 ∷ 0xA0 ∷ 0x9C ∷ 0x01 ∷ 0x00 ∷ 0x00 ∷ 0x02 ∷ 0x00 ∷ 0x00 ∷ 0x01 ∷ [])); gives = Unconverted 16 44 }
    ∷ record { way = ToFirst; study = pair ++ (both_open ++ (0x02 ∷ 0x64 ∷ 0xA0 ∷ 0x9C ∷ 0x01 ∷ 0x00 ∷ 0x00 ∷ 0x02 ∷ 0x00 ∷ 0x00 ∷ 0x01 ∷ 0x05 ∷ [])); gives = Unconverted 16 44 }
    -- a sheet that ends early is not looked at for closed lanes
    ∷ record { way = ToFirst; study = pair ++ (0x02 ∷ 0x64 ∷ 0xA0 ∷ 0x9C ∷ 0x01 ∷ 0x00 ∷ 0x00 ∷ 0x01 ∷ []); gives = Unconverted 1 31 }
    ∷ []

every_case : AllAgree cases
unfolding AllAgree Agrees cases road sheet opened pair both_open read_road road_from read_row fields and_then onto read_field in_range range_of count_of road_range period_range first_range read_number groups last more placed read_period read_first_period row_bytes number_bytes bytes_from values_to number_in_second number_in_first converted_row first_closed open_lanes_place converted_from converted_sheet onto_sheets and_sheets sheets_from rows_bytes behind conversion_of
every_case = (refl, (refl, (refl, (refl, (refl, (refl, (refl, (refl, (refl, (refl, tt))))))))))

-- the call: a byte too few, and a byte too many, which keeps its contents
too_short : convert_of ToSecond (road ++ sheet) (replicate 21 7) ≡ record { answer = RefusedAs 7 0; target = replicate 21 7 }
unfolding road sheet opened pair both_open convert_of room_at write_answer write_into read_road road_from read_row fields and_then onto read_field in_range range_of count_of road_range period_range first_range read_number groups last more placed read_period read_first_period row_bytes number_bytes bytes_from values_to number_in_second number_in_first converted_row first_closed open_lanes_place converted_from converted_sheet onto_sheets and_sheets sheets_from rows_bytes behind conversion_of
too_short = refl

long_enough : convert_of ToSecond (road ++ sheet) (replicate 23 7) ≡ record { answer = Written 22; target = road ++ (opened ++ (7 ∷ [])) }
unfolding road sheet opened pair both_open convert_of room_at write_answer write_into read_road road_from read_row fields and_then onto read_field in_range range_of count_of road_range period_range first_range read_number groups last more placed read_period read_first_period row_bytes number_bytes bytes_from values_to number_in_second number_in_first converted_row first_closed open_lanes_place converted_from converted_sheet onto_sheets and_sheets sheets_from rows_bytes behind conversion_of
long_enough = refl
