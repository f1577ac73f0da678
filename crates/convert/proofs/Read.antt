-- A sheet that is read and converted, as the code has it: the row with zeros after it.
use Prim.Native.Nat.{ℕ, zero, suc, ◌+◌, ◌-◌, ◌*◌, ◌≤◌}
use mathlib.Core.Path.{◌≡◌, refl, sym, ap, ◌∙◌}
use mathlib.Core.List.{List, [], ◌∷◌, ◌++◌}
use native.Mathlib.Omega.{arith}
use lib.ListN.{length, get_or, take, replicate}
use mathlib.Core.Bool.{Bool, true, false}
use lib.Dec.{ltb}
use Rattle.std.specs.Prelude.{if◌then◌else◌}
use lib.Seq.{take-append-le}
use borrow.Author.Tests.{ltb-true}
use Rattle.numbers.specs.Row.{Rows, ReadRow, RefusedAt}
use Rattle.sheets.specs.declared.Layout.TheVariants.{FirstPeriod}
use Rattle.sheets.specs.Layout.{range_of, count_of, RowOf}
use Rattle.sheets.proofs.Ranges.{period_first, first_start}
use Rattle.convert.proofs.Rows.{at_place}
use Rattle.sheets.specs.Read.{read_row, read_period, read_first_period, padded}
use Rattle.sheets.specs.Write.{row_bytes}
use Rattle.sheets.proofs.Round.{row_ranged}
use Rattle.conditions.proofs.Values.{replicated, values_same}
use Rattle.convert.specs.declared.Way.{Way}
use Rattle.convert.specs.declared.Way.TheVariants.{ToSecond, ToFirst}
use Rattle.numbers.specs.Filled.{filled}
use Rattle.numbers.proofs.Rows.{filled_read, filled_refused}
use Rattle.convert.specs.Sheet.{layout_from, number_in_second, number_in_first, number_to, layout_to, converted_row, first_closed, open_lanes_place, converted_from, converted_by, sheet_in, converted_sheet}
use Rattle.convert.proofs.Closed.{period_few}

-- ---- zeros after a row do not matter
with_zeros : (row : List ℕ) (m k : ℕ) → get_or (row ++ replicate m 0) k 0 ≡ get_or row k 0
with_zeros [] m k = replicated 0 m k
with_zeros (v ∷ row) m zero = refl
with_zeros (v ∷ row) m (suc k) = with_zeros row m k

pub padded_at : (row : List ℕ) (k : ℕ) → get_or (padded row) k 0 ≡ get_or row k 0
padded_at row k = with_zeros row (452 - length row) k

number_padded : (way : Way) (road row : List ℕ) (k : ℕ) → number_to way road (padded row) k ≡ number_to way road row k
unfolding number_in_second number_in_first
number_padded ToSecond road row k = simp (padded_at row)
number_padded ToFirst road row k = simp (padded_at row)

converted_padded : (way : Way) (road row : List ℕ) → converted_row way road (padded row) ≡ converted_row way road row
unfolding converted_row
converted_padded way road row = values_same _ _ (count_of (layout_to way (get_or road 0 0))) (λ k h. number_padded way road row k)

closed_padded : (road row : List ℕ) (left i : ℕ) → first_closed road (padded row) left i ≡ first_closed road row left i
unfolding first_closed
closed_padded road row zero i = refl
closed_padded road row (suc left) i = rw (padded_at row, closed_padded road row left (i + 1))

-- ---- nor when a sheet that was read is converted
module _ (road row : List ℕ) (used : ℕ) where
  by_closed : (t : Bool) (n : ℕ) → (t ≡ true → 3 + 3 * n + 2 ≤ length row)
      → filled 452 (if t then RefusedAt 16 (length (row_bytes (take (3 + 3 * n + 2) (padded row)))) else ReadRow (converted_row ToFirst road (padded row)) used)
      ≡ filled 452 (if t then RefusedAt 16 (length (row_bytes (take (3 + 3 * n + 2) row))) else ReadRow (converted_row ToFirst road row) used)
  by_closed true n inside = rw (take-append-le (3 + 3 * n + 2) row (replicate (452 - length row) 0) (inside refl))
  by_closed false n inside = rw (converted_padded ToFirst road row)

  from_padded : (way : Way) → get_or road 0 0 ≤ 64 → length row ≡ count_of (layout_from way (get_or road 0 0))
      → filled 452 (converted_from way road (padded row) used) ≡ filled 452 (converted_from way road row used)
  unfolding converted_from open_lanes_place count_of
  from_padded ToSecond few size = rw (converted_padded ToSecond road row)
  from_padded ToFirst few size =
      let ns = get_or road 0 0 in
      rw (closed_padded road row ns 0) (by_closed (ltb (first_closed road row ns 0) ns) (first_closed road row ns 0) (λ t. omega (arith, ltb-true _ _ t)))

-- a sheet in the layout that the study has
pub sheet_in_lem : (way : Way) (road bytes : List ℕ) → sheet_in way road bytes ≡ read_row (layout_from way (get_or road 0 0)) road bytes
unfolding read_first_period read_period
sheet_in_lem ToSecond road bytes = refl
sheet_in_lem ToFirst road bytes = refl

-- NS of a road whose sheets are read
few_of : (way : Way) (road row : List ℕ) → RowOf (layout_from way (get_or road 0 0)) road row → get_or road 0 0 ≤ 64
unfolding range_of count_of
few_of ToSecond road row r =
    let h = rw (first_start (get_or road 0 0) road 0 (omega arith), period_first (get_or road 0 0) road 0 refl) at (at_place (FirstPeriod (get_or road 0 0)) road row r 0 (omega arith)) in
    omega (arith, h.0, h.1)
few_of ToFirst road row r = period_few road row r

-- ---- the reading of a sheet, as the code has it
module _ (way : Way) (road bytes : List ℕ) where
  abbrev reading : Rows
  reading = read_row (layout_from way (get_or road 0 0)) road bytes

  pub unread : (number offset : ℕ) → RefusedAt number offset ≡ filled 452 reading → RefusedAt number offset ≡ filled 452 (converted_sheet way road bytes)
  unfolding converted_sheet filled
  unread number offset e = rw (sheet_in_lem way road bytes, filled_refused 452 reading number offset e)

  module _ (given : List ℕ) (used : ℕ) (e : ReadRow given used ≡ filled 452 reading) where
    got : (row : List ℕ) × (reading ≡ ReadRow row used) × (given ≡ padded row)
    got = filled_read 452 reading given used e

    ranged : RowOf (layout_from way (get_or road 0 0)) road got.0
    ranged = row_ranged (layout_from way (get_or road 0 0)) road bytes got.0 used got.1

    pub few : get_or road 0 0 ≤ 64
    few = few_of way road got.0 ranged

    pub was_read : filled 452 (converted_from way road given used) ≡ filled 452 (converted_sheet way road bytes)
    unfolding converted_sheet
    was_read =
        ap (λ (row : List ℕ). filled 452 (converted_from way road row used)) got.2
        ∙ from_padded road got.0 used way few ranged.0
        ∙ sym (ap (λ (r : Rows). filled 452 (converted_by way road r)) (sheet_in_lem way road bytes ∙ got.1))
