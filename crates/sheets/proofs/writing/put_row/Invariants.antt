-- The writer's loop: the bytes of the first numbers stand at the start of `out`.
use lib.ListN.{length, take, drop}
use mathlib.Core.List.{◌++◌}
use mathlib.Core.Path.{◌≡◌}
use Rattle.sheets.specs.Write.{row_bytes}
use Rattle.sheets.proofs.writing.put_row.Given as goal

abbrev pub invariant-loop-value : goal.invariant-loop-value
invariant-loop-value l = (l.out ≡ row_bytes (take l.value-index l.row) ++ drop l.i l.initial.out) × (l.i ≡ length (row_bytes (take l.value-index l.row)))
