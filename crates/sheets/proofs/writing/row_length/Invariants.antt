-- The loop adds up the numbers' lengths.
use lib.ListN.{length, take}
use mathlib.Core.Path.{◌≡◌}
use Prim.Native.Nat.{◌*◌, ◌≤◌}
use Rattle.sheets.specs.Write.{row_bytes}
use Rattle.sheets.proofs.writing.row_length.Given as goal

abbrev pub invariant-loop-value : goal.invariant-loop-value
invariant-loop-value l = (l.n ≡ length (row_bytes (take l.value-index l.row))) × (l.n ≤ 5 * l.value-index)
