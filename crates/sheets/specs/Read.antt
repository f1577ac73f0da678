-- Manual 3.2 to 3.5: what reading a road or a period sheet gives, the latter in either layout.
use Rattle.std.specs.Prelude.{ℕ, List, [], replicate, get_or, Result, Ok, Err}
use Rattle.refusals.specs.Numbers.{refusal_number}
use Rattle.refusals.specs.declared.Refused.{Refused as RefusedPlace}
use Rattle.numbers.specs.declared.reader.Row.{Row}
use Rattle.numbers.specs.Number.{Reading, Read, Refused}
use Rattle.numbers.specs.Field.{read_field}
use Rattle.numbers.specs.Row.{Rows, ReadRow, RefusedAt, fields, padded_to}
use Rattle.sheets.specs.declared.Layout.{Layout}
use Rattle.sheets.specs.declared.Layout.TheVariants.{Road, Period, FirstPeriod}
use Rattle.sheets.specs.Layout.{road_range, range_of, count_of}

-- the field at an offset, by the range of its place
abbrev pub field_of : Layout → (road bytes : List ℕ) → (place at : ℕ) → Reading
field_of l road bytes k at = read_field (range_of l road k) bytes at

-- a sheet of the layout: a reading uses a leading part of the bytes and tells how many bytes it used
unfoldable pub read_row : Layout → (road bytes : List ℕ) → Rows
read_row l road bytes = fields (field_of l road bytes) (count_of l) 0 0

-- a road by its first number, NS; its own ranges ask for no road
unfoldable pub road_from : List ℕ → Reading → Rows
road_from bytes (Read ns next) = read_row (Road ns) [] bytes
road_from bytes (Refused e) = RefusedAt e 0

unfoldable pub read_road : List ℕ → Rows
read_road bytes = road_from bytes (read_field (road_range 0) bytes 0)

-- a period of a road, by the road's NS, its first number, and its lanes
unfoldable pub read_period : (road bytes : List ℕ) → Rows
read_period road bytes = read_row (Period (get_or road 0 0)) road bytes

-- the same in the first layout
unfoldable pub read_first_period : (road bytes : List ℕ) → Rows
read_first_period road bytes = read_row (FirstPeriod (get_or road 0 0)) road bytes

-- a row with zeros after it, to the 452 places of the largest road
abbrev pub padded : List ℕ → List ℕ
padded row = padded_to 452 row

-- what reading a sheet gives, in numbers: refusal is 0, or its number, with the offset of the field's first byte; used counts the bytes read
pub record SheetReading : Type 0 where
  pub refusal : ℕ
  pub offset : ℕ
  pub used : ℕ
  pub row : List ℕ

-- beside a refusal's number and offset every other number is 0
unfoldable pub sheet_reading : Rows → SheetReading
sheet_reading (ReadRow row n) = record { refusal = 0; offset = 0; used = n; row = padded row }
sheet_reading (RefusedAt e at) = record { refusal = e; offset = at; used = 0; row = replicate 452 0 }

-- the same of what the code answers
abbrev pub sheet_told : Result (Row 452) RefusedPlace → SheetReading
sheet_told (Ok s) = record { refusal = 0; offset = 0; used = s.used; row = s.numbers }
sheet_told (Err r) = record { refusal = refusal_number r.refusal; offset = r.offset; used = 0; row = replicate 452 0 }

-- a sheet that was read, of so many bytes
abbrev pub read_as : List ℕ → ℕ → SheetReading
read_as row used = record { refusal = 0; offset = 0; used = used; row = padded row }
