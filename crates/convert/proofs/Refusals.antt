-- A study that does not convert, but for a closed lane, has a sheet that is not read, refused with the same number at the same place.
use Prim.Native.Nat.{ℕ, zero, suc, ◌+◌}
use mathlib.Core.Bool.{Bool, true, false}
use mathlib.Core.Path.{◌≡◌, refl, ap, ◌∙◌}
use mathlib.Core.List.{List, []}
use native.Mathlib.Omega.{arith}
use lib.ListN.{length, take, drop}
use lib.Dec.{ltb}
use Rattle.std.specs.Prelude.{if◌then◌else◌}
use Rattle.numbers.specs.Row.{Rows, ReadRow, RefusedAt}
use Rattle.sheets.specs.Read.{read_road, padded}
use Rattle.convert.specs.declared.Way.{Way}
use Rattle.convert.specs.Sheet.{converted_from, converted_by, sheet_in, converted_sheet}
use Rattle.convert.specs.Convert.{Sheets, AllSheets, RefusedSheet, onto_sheets, and_sheets, sheets_from, Unconverted, behind, converted_on, conversion_of}
use Rattle.convert.proofs.Closed.{converted_is, NotClosed, never_refused}

onto_refused : (row : List ℕ) (s : Sheets) (number offset : ℕ) → onto_sheets row s ≡ RefusedSheet number offset → s ≡ RefusedSheet number offset
unfolding onto_sheets
onto_refused row (AllSheets rows) number offset e = absurd (let z : ◌≡◌ {A = ℕ} 0 1 = cc in omega arith)
onto_refused row (RefusedSheet a b) number offset e = e

either : (t : Bool) (a b : Sheets) (number offset : ℕ) → (a ≡ RefusedSheet number offset → b ≡ RefusedSheet number offset)
    → (if t then a else AllSheets []) ≡ RefusedSheet number offset → (if t then b else AllSheets []) ≡ RefusedSheet number offset
either true a b number offset h e = h e
either false a b number offset h e = e

module _ (way : Way) (road : List ℕ) (number offset : ℕ) (other : NotClosed way number) where
  -- a sheet that was read, and then the others
  read_refused : (at used : ℕ) (row : List ℕ) (on rest : ℕ → Sheets) (x : Rows) → converted_from way road row used ≡ x
      → ((n : ℕ) → on n ≡ RefusedSheet number offset → rest n ≡ RefusedSheet number offset)
      → and_sheets at x on ≡ RefusedSheet number offset → onto_sheets row (rest (at + used)) ≡ RefusedSheet number offset
  unfolding and_sheets onto_sheets
  read_refused at used row on rest (ReadRow to n) is h e =
      let same : n ≡ used = (converted_is way road row used to n is).1 in
      let r = onto_refused to (on (at + n)) number offset e in
      ap (onto_sheets row) (h (at + used) (rw same at r))
  read_refused at used row on rest (RefusedAt a b) is h e =
      let m : a ≡ number = cc in
      absurd (never_refused way road row used number b other (is ∙ rw m))

  and_refused : (at : ℕ) (r : Rows) (on rest : ℕ → Sheets) → ((n : ℕ) → on n ≡ RefusedSheet number offset → rest n ≡ RefusedSheet number offset)
      → and_sheets at (converted_by way road r) on ≡ RefusedSheet number offset → and_sheets at r rest ≡ RefusedSheet number offset
  unfolding and_sheets
  and_refused at (ReadRow row used) on rest h e = read_refused at used row on rest (converted_from way road row used) refl h e
  and_refused at (RefusedAt a b) on rest h e = e

  sheets_refused : (bytes : List ℕ) (left at : ℕ) → sheets_from (converted_sheet way road) left bytes at ≡ RefusedSheet number offset
      → sheets_from (sheet_in way road) left bytes at ≡ RefusedSheet number offset
  unfolding sheets_from converted_sheet
  sheets_refused bytes zero at e = e
  sheets_refused bytes (suc left) at e =
      either (ltb at (length bytes)) (and_sheets at (converted_by way road (sheet_in way road (drop at bytes))) (sheets_from (converted_sheet way road) left bytes))
      (and_sheets at (sheet_in way road (drop at bytes)) (sheets_from (sheet_in way road) left bytes)) number offset
      (and_refused at (sheet_in way road (drop at bytes)) (sheets_from (converted_sheet way road) left bytes) (sheets_from (sheet_in way road) left bytes) (sheets_refused bytes left)) e

-- ---- the whole study: its road is refused, or a sheet is
behind_refused : (part : List ℕ) (s : Sheets) (number offset : ℕ) → behind part s ≡ Unconverted number offset → s ≡ RefusedSheet number offset
unfolding behind
behind_refused part (AllSheets rows) number offset e = absurd (let z : ◌≡◌ {A = ℕ} 0 1 = cc in omega arith)
behind_refused part (RefusedSheet a b) number offset e = cc

pub data NotRead (way : Way) (bytes : List ℕ) (number offset : ℕ) : Type 0 where
  no_road : read_road bytes ≡ RefusedAt number offset → NotRead way bytes number offset
  no_sheet_lem : (row : List ℕ) (used : ℕ) → read_road bytes ≡ ReadRow row used → sheets_from (sheet_in way (padded row)) 96 bytes used ≡ RefusedSheet number offset
      → NotRead way bytes number offset

not_read_on : (way : Way) (bytes : List ℕ) (number offset : ℕ) → NotClosed way number → (r : Rows) → read_road bytes ≡ r → converted_on way bytes r ≡ Unconverted number offset
    → NotRead way bytes number offset
not_read_on way bytes number offset other (ReadRow row used) road e =
    no_sheet_lem row used road
    (sheets_refused way (padded row) number offset other bytes 96 used (behind_refused (take used bytes) (sheets_from (converted_sheet way (padded row)) 96 bytes used) number offset e))
not_read_on way bytes number offset other (RefusedAt a b) road e =
    let m : a ≡ number = cc in
    let n : b ≡ offset = cc in
    no_road (road ∙ rw (m, n))

pub not_read : (way : Way) (bytes : List ℕ) (number offset : ℕ) → NotClosed way number → conversion_of way bytes ≡ Unconverted number offset → NotRead way bytes number offset
unfolding conversion_of
not_read way bytes number offset other e = not_read_on way bytes number offset other (read_road bytes) refl e
