-- Manual 11.1: section count 1..64; per section length, lanes, FFS, CAF; then per section inflow and outflow.
use Rattle.std.specs.Prelude.{ℕ, ◌+◌, ◌*◌, ◌%◌, Bool, ◌&&◌, List, leb, ltb, eqb, get_or, if◌then◌else◌}
use Rattle.numbers.specs.declared.Range.{Range}
use Rattle.refusals.specs.declared.Refusal.TheVariants.{OutOfRange}
use Rattle.numbers.specs.Number.{Reading, Read, Refused, read_number}
use Rattle.numbers.specs.Field.{read_field}
use Rattle.numbers.specs.Row.{Rows, ReadRow, RefusedAt, fields}
use Rattle.numbers.specs.Filled.{filled}
use Rattle.sections.specs.Section.{SectionNumbers}
use Rattle.sections.specs.Table.{tabled}
use Rattle.planning_sheet.specs.Listing.{first}

-- low .. high
abbrev pub between : ℕ → ℕ → ℕ → Bool
between low high v = leb low v && leb v high

-- the values of a section's j-th field: length, lanes, FFS, CAF
unfoldable pub section_field : ℕ → ℕ → Bool
section_field j v =
    if eqb j 0 then between 300 26400 v
    else if eqb j 1 then between 1 8 v
    else if eqb j 2 then tabled v
    else between 100 1000 v

-- the values of the k-th place after the count n: four fields a section, then the flows
unfoldable pub allowed_at : ℕ → ℕ → ℕ → Bool
allowed_at n k v = if ltb k (4 * n) then section_field (k % 4) v else between 0 20000 v

-- a number that was read, held to its place. Refusal 4: a field is outside its range
unfoldable pub held_to : (count place : ℕ) → Reading → Reading
held_to n k (Read v next) = if allowed_at n k v then Read v next else Refused 4
held_to n k (Refused e) = Refused e

-- the field of a place at an offset
unfoldable pub field_at : (count : ℕ) → List ℕ → (place at : ℕ) → Reading
field_at n bytes k at = held_to n k (read_number bytes at)

-- section i of n, from 0
unfoldable pub section_of : ℕ → List ℕ → ℕ → SectionNumbers
section_of n row i =
    record {
      length = get_or row (4 * i) 0;
      lanes = get_or row (4 * i + 1) 0;
      ffs = get_or row (4 * i + 2) 0;
      caf = get_or row (4 * i + 3) 0;
      inflow = get_or row (4 * n + 2 * i) 0;
      outflow = get_or row (4 * n + 2 * i + 1) 0;
    }

-- what reading a sheet gives: its sections and how many bytes were used; or a refusal's number and offset
pub data Reads : Type 0 where
  ReadSections : List SectionNumbers → ℕ → Reads
  NoSections : ℕ → ℕ → Reads

-- the n sections of a row
unfoldable pub sections_of : ℕ → Rows → Reads
sections_of n (ReadRow row used) = ReadSections (first n (section_of n row)) used
sections_of n (RefusedAt e at) = NoSections e at

-- six numbers for each of n sections; a row has the 384 places of the largest sheet, zeros after the sheet's own
unfoldable pub sections_from : ℕ → List ℕ → ℕ → Reads
sections_from n bytes at = sections_of n (filled 384 (fields (field_at n bytes) (6 * n) 0 at))

-- the section count
abbrev pub count_range : Range
count_range = record { low = 1; high = 64; refusal = OutOfRange }

-- the section count comes first
unfoldable pub sheet_from : List ℕ → Reading → Reads
sheet_from bytes (Read n next) = sections_from n bytes next
sheet_from bytes (Refused e) = NoSections e 0

-- a sheet at the start of the bytes
unfoldable pub read_sheet : List ℕ → Reads
read_sheet bytes = sheet_from bytes (read_field count_range bytes 0)

-- section i of a sheet, from 0
abbrev pub section_at : List SectionNumbers → ℕ → SectionNumbers
section_at sections i = get_or sections i (record { length = 0; lanes = 0; ffs = 0; caf = 0; inflow = 0; outflow = 0 })
