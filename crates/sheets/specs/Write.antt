-- Manual 3.6: the bytes of a road or a period sheet.
use Rattle.std.specs.Prelude.{ℕ, List, [], ◌∷◌, ◌++◌, take, get_or}
use Rattle.numbers.specs.Number.{number_bytes}
use Rattle.sheets.specs.declared.Layout.{Layout}
use Rattle.sheets.specs.declared.Layout.TheVariants.{Road, Period}
use Rattle.sheets.specs.Layout.{count_of}

-- the numbers of a row, one after the other
unfoldable pub row_bytes : List ℕ → List ℕ
row_bytes [] = []
row_bytes (v ∷ row) = number_bytes v ++ row_bytes row

-- the bytes of several rows, one after the other
unfoldable pub rows_bytes : List (List ℕ) → List ℕ
rows_bytes [] = []
rows_bytes (row ∷ rows) = row_bytes row ++ rows_bytes rows

-- the numbers of a sheet without the zeros after them: its first number, NS, gives the layout
unfoldable pub sheet_row : (ℕ → Layout) → List ℕ → List ℕ
sheet_row layout row = take (count_of (layout (get_or row 0 0))) row

abbrev pub road_row : List ℕ → List ℕ
road_row = sheet_row Road

abbrev pub period_row : List ℕ → List ℕ
period_row = sheet_row Period
