-- A period that is read, or its bad field, lies within the bytes.
use Rattle.std.proofs.Common.{◌≡◌, ℕ, List, length}
use Rattle.numbers.specs.Row.{Rows, ReadRow, RefusedAt}
use Rattle.numbers.specs.Filled.{filled}
use Rattle.sheets.specs.Read.{read_period}
use Rattle.sheets.proofs.Within.{RowWithin, period_within}

filled_within : (m : ℕ) (x : Rows) → RowWithin m x → RowWithin m (filled 452 x)
unfolding filled
filled_within m (ReadRow row used) h = h
filled_within m (RefusedAt e at) h = h

pub told_within : (road bytes : List ℕ) (r : Rows) → r ≡ filled 452 (read_period road bytes) → RowWithin (length bytes) r
told_within road bytes r e = rw e (filled_within (length bytes) (read_period road bytes) (period_within road bytes))
