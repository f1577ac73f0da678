-- Manual 10.1: what is claimed of conversions. A study converts back exactly if it is read whole and no lane is closed in it; 16 tells where the
-- first closed lane's number stands; there and back, and back and there, give the same bytes, and the road part is the same bytes.
use Rattle.std.specs.Prelude.{ℕ, ◌+◌, ◌*◌, ◌<◌, ◌≡◌, List, [], ◌∷◌, take, get_or}
use Rattle.numbers.specs.Number.{Bytes}
use Rattle.numbers.specs.Row.{ReadRow, fields}
use Rattle.sheets.specs.declared.Layout.TheVariants.{Period}
use Rattle.sheets.specs.Layout.{lanes_of, opened_of}
use Rattle.sheets.specs.Read.{field_of, read_road, padded}
use Rattle.convert.specs.declared.Way.{Way}
use Rattle.convert.specs.declared.Way.TheVariants.{ToSecond, ToFirst}
use Rattle.convert.specs.Sheet.{sheet_in}
use Rattle.convert.specs.Convert.{AllSheets, sheets_from, Converted, conversion_of}

-- a claim holds of every sheet
abbrev pub EverySheet : (List ℕ → Type 0) → List (List ℕ) → Type 0
EverySheet P [] = Unit {0}
EverySheet P (row ∷ rows) = P row × EverySheet P rows

-- no lane is closed in a sheet of the second layout
abbrev pub NoneClosed : (road second : List ℕ) → Type 0
NoneClosed road second = (i : ℕ) → i < get_or road 0 0 → opened_of second i ≡ lanes_of road i

-- the study is read whole, in the layout that it has: the road's row and the bytes that its reading used, and the rows of all sheets
pub record ReadWhole (way : Way) (bytes row : List ℕ) (used : ℕ) (rows : List (List ℕ)) : Type 0 where
  pub road : read_road bytes ≡ ReadRow row used
  pub sheets : sheets_from (sheet_in way (padded row)) 96 bytes used ≡ AllSheets rows

-- a study of the second layout that is read whole, and has no lane closed
pub record AllOpen (bytes : List ℕ) : Type 0 where
  pub row : List ℕ
  pub used : ℕ
  pub rows : List (List ℕ)
  pub whole : ReadWhole ToFirst bytes row used rows
  pub opened : EverySheet (NoneClosed (padded row)) rows

-- exactly such a study converts back
pub record BackExactly (bytes : List ℕ) : Type 0 where
  pub only : (out : List ℕ) → conversion_of ToFirst bytes ≡ Converted out → AllOpen bytes
  pub whenever : AllOpen bytes → (out : List ℕ) × (conversion_of ToFirst bytes ≡ Converted out)

-- what 16 tells of a sheet that was read as this row: some segment has a lane closed, before it none has, and the offset is where the reading of the
-- numbers before its open lanes ended
pub record ClosedLane (road bytes row : List ℕ) (offset : ℕ) : Type 0 where
  pub segment : ℕ
  pub inside : segment < get_or road 0 0
  pub closed : opened_of row segment < lanes_of road segment
  pub before : (i : ℕ) → i < segment → opened_of row i ≡ lanes_of road i
  pub there : fields (field_of (Period (get_or road 0 0)) road bytes) (3 + 3 * segment + 2) 0 0 ≡ ReadRow (take (3 + 3 * segment + 2) row) offset

-- where a conversion leads back to
abbrev pub back_of : Way → Way
back_of ToSecond = ToFirst
back_of ToFirst = ToSecond

-- what holds of every study that converts: the result is bytes, back again it is the original, and the road part is the same bytes
pub record Faithful (way : Way) (bytes out : List ℕ) : Type 0 where
  pub bytes_too : Bytes out
  pub back : conversion_of (back_of way) out ≡ Converted bytes
  pub road : (row : List ℕ) (used : ℕ) → read_road bytes ≡ ReadRow row used → (read_road out ≡ ReadRow row used) × (take used out ≡ take used bytes)
