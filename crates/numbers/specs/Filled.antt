-- Manual 3.2, what the reader of a row answers: the row with zeros after it, to the places of the largest sheet, or the refusal.
use Rattle.std.specs.Prelude.{ℕ, Result, Ok, Err}
use Rattle.refusals.specs.Numbers.{refusal_number}
use Rattle.refusals.specs.declared.Refused.{Refused}
use Rattle.numbers.specs.declared.reader.Row.{Row}
use Rattle.numbers.specs.Row.{Rows, ReadRow, RefusedAt, padded_to}

unfoldable pub filled : ℕ → Rows → Rows
filled size (ReadRow row next) = ReadRow (padded_to size row) next
filled size (RefusedAt e at) = RefusedAt e at

abbrev pub rows : {N : ℕ} → Result (Row N) Refused → Rows
rows (Ok r) = ReadRow r.numbers r.used
rows (Err r) = RefusedAt (refusal_number r.refusal) r.offset
